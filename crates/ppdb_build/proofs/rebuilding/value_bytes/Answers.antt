use Rattle.std.proofs.Common.{◌≡◌, subst, None, OnOk}
use Rattle.ppdb_values.specs.declared.file.FileValue.{FileValue}
use Rattle.ppdb_build_canon.specs.Limits.{first_limit}
use Rattle.ppdb_build.proofs.rebuilding.value_bytes.Goals as goal

pub returns-clause-written : goal.returns-clause-written
returns-clause-written g c = rw c.in-Ok.ensures.value at c.write_file.ensures.written

pub returns-clause-within : goal.returns-clause-within
returns-clause-within g c =
    subst (λ (v : FileValue). OnOk c.write_file.result (first_limit v ≡ None)) c.in-Ok.ensures.value c.write_file.ensures.within

pub returns-clause-limit : goal.returns-clause-limit
returns-clause-limit g c = rw c.in-Ok.ensures.value at c.write_file.ensures.limit

pub returns-clause-reread : goal.returns-clause-reread
returns-clause-reread g c = rw c.in-Ok.ensures.value at c.write_file.ensures.reread

pub returns-clause-again : goal.returns-clause-again
returns-clause-again g c = rw c.in-Ok.ensures.value at c.write_file.ensures.again
