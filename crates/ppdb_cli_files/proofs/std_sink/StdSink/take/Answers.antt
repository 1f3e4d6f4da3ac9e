use Rattle.std.{proofs.Common.{◌≡◌, ◌∙◌, ap, ℕ, List, ◌++◌, take, append-nil, Option, None, Some, Result, Ok, Err, OnOk}, specs.Io.KnownBytes.{Appends, Keeps}}
use Rattle.ppdb_cli_files.specs.Kept.{kept_after}
use Rattle.ppdb_cli_files.proofs.std_sink.StdSink.take.Goals as goal

-- all that was kept was written, and then bytes past it
past_kept : (a b c : Option (List ℕ)) (buffer bs : List ℕ) (kept : ℕ) → Keeps a b → kept ≡ 0 → Appends b c bs → Appends a (kept_after c buffer kept) bs
past_kept None b c buffer bs kept same none put = tt
past_kept (Some x) None c buffer bs kept same none put = absurd same
past_kept (Some x) (Some y) None buffer bs kept same none put = absurd put
past_kept (Some x) (Some y) (Some z) buffer bs kept same none put =
    ap (λ n. z ++ take n buffer) none ∙ append-nil z ∙ put ∙ ap (λ l. l ++ bs) same

on_ok : {T E P Q : Type 0} (r : Result T E) → (P → Q) → OnOk r P → OnOk r Q
on_ok (Ok x) f p = f p
on_ok (Err e) f p = p

pub returns-clause-bytes : goal.returns-clause-bytes
returns-clause-bytes g c =
    on_ok c.put_all.result (past_kept _ _ _ _ _ _ c.in_ok-write_out.ensures.bytes c.in_ok-write_out.ensures.kept) c.put_all.ensures.bytes
