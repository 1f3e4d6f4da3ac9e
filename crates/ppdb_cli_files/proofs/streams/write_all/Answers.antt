use Rattle.std.proofs.Common.{◌≡◌, refl, Option, None, Some, ℕ, ◌-◌, List, [], ◌++◌, rules, length, take, drop, sym, ap, ◌∙◌, subst, append_assoc, append-nil}
use Rattle.std.proofs.{Common.{take-append-drop, drop_of_length-le}, lemmas.List.{take_rest}, Math.Seq.{take-append_seam}}
use Rattle.std.{specs.Io.KnownBytes.{Appends, Keeps}, proofs.KnownBytes.{Appends-trans, Appends-nil}}
use Rattle.ppdb_cli_files.specs.Kept.{AppendsPart}
use Rattle.ppdb_cli_files.proofs.streams.write_all.Goals as goal

moves_prefix : (all done rest : List ℕ) (n : ℕ) → all ≡ done ++ rest → all ≡ (done ++ take n rest) ++ take (length rest - n) (drop n rest)
moves_prefix all done rest n e =
    e ∙ ap (λ l. done ++ l) (sym (take-append-drop n rest)) ∙ sym (append_assoc done (take n rest) (drop n rest))
    ∙ ap (λ l. (done ++ take n rest) ++ l) (sym (take_rest rest n))

-- nothing more was appended
none_more : (a b : Option (List ℕ)) → Keeps a b → Appends a b []
none_more None b same = tt
none_more (Some x) None same = absurd same
none_more (Some x) (Some y) same = same ∙ sym (append-nil x)

taken_none : (a b : Option (List ℕ)) (bytes : List ℕ) (n : ℕ) → n ≡ 0 → Appends a b (take n bytes) → Appends a b []
taken_none a b bytes n is appended = subst (λ m. Appends a b (take m bytes)) is appended

-- what was appended so far are the first bytes
part_of : (a b c : Option (List ℕ)) (all done rest : List ℕ) → all ≡ done ++ rest → Appends a b done → Appends b c [] → AppendsPart a c all
part_of a b c all done rest split appended none =
    (length done, subst (Appends a c) (append-nil done ∙ sym (ap (take (length done)) split ∙ take-append_seam done rest)) (Appends-trans _ _ _ _ _ appended none))

pub loop-rest-init : goal.loop-rest-init
loop-rest-init g c = ([], refl, Appends-nil _)

pub loop-rest-preserved : goal.loop-rest-preserved
loop-rest-preserved g c =
    let (done, split, appended) = c.loop-rest.invariant in
    let rest = c.loop-rest.rest.now in
    let n = c.in-Ok.count in
    (done ++ take n rest, moves_prefix _ done rest n split, Appends-trans _ _ _ _ _ appended c.in-Ok.ensures.bytes)

pub returns : goal.returns
returns g c =
    let (done, split, appended) = c.loop-rest.invariant in
    let rest = c.loop-rest.rest.now in
    let empty : rest ≡ [] = drop_of_length-le rest {i = 0} (search rules) in
    record { bytes = subst (Appends _ _) (sym (split ∙ ap (λ l. done ++ l) empty ∙ append-nil done)) appended; part = tt; retried = tt }

pub returns-in-Ok-eq0-clause-part : goal.returns-in-Ok-eq0-clause-part
returns-in-Ok-eq0-clause-part g c =
    let (done, split, appended) = c.loop-rest.invariant in
    part_of _ _ _ _ done _ split appended (taken_none _ _ c.loop-rest.rest.now c.in-Ok-eq0.field-0 (search rules) c.in-Ok-eq0.ensures.bytes)

pub returns-in-Err-clause-part : goal.returns-in-Err-clause-part
returns-in-Err-clause-part g c =
    let (done, split, appended) = c.loop-rest.invariant in
    part_of _ _ _ _ done _ split appended (none_more _ _ c.in-Err.ensures.bytes)
