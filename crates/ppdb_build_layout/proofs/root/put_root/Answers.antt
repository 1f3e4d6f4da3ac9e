use Rattle.std.proofs.Common.{refl, append_assoc}
use Rattle.ppdb_build_layout.proofs.root.put_root.Goals as goal

pub returns-clause-ok : goal.returns-clause-ok
returns-clause-ok c =
    rw (
      c.in_ok-put_header-5.ensures.ok,
      c.in_ok-put_header-4.ensures.ok,
      c.in_ok-put_header-3.ensures.ok,
      c.in_ok-put_header-2.ensures.ok,
      c.in_ok-put_header.ensures.ok,
      c.in_ok-append.ensures.ok,
    )
    (simp append_assoc refl)
