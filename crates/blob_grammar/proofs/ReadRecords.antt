-- What holds of the records that a blob is read as: it holds before the first field, and each allowed field keeps it.
use Rattle.std.proofs.Common.{ℕ, List, [], ◌∷◌, ◌++◌, Option, sym, subst, append_assoc, append-nil}
use Rattle.ppdb_base.specs.declared.BlobFault.{BlobFault}
use Rattle.blob_grammar.{specs.Grammar.{Field, Grammar, Cut, with_value, cut, bytes_of, IsAllowed, EachFollows}, specs.Reading.{Reading}, proofs.Prefixes.{cut-push}}

after_all : {R : Type 0} (g : Grammar R) (H : Cut R → Type 0) → ((c : Cut R) (f : Field) (after : List ℕ) → IsAllowed g c f after → H c
    → H (with_value g c f.value))
    → (before fs : List Field) (after : List ℕ) → EachFollows g before fs after → H (cut g before) → H (cut g (before ++ fs))
after_all g H kept before [] after each h = subst (λ (gs : List Field). H (cut g gs)) (sym (append-nil before)) h
after_all {R = R} g H kept before (f ∷ fs) after each h =
    subst (λ (gs : List Field). H (cut g gs)) (append_assoc before (f ∷ []) fs)
    (after_all g H kept (before ++ f ∷ []) fs after each.1 (subst (λ (c : Cut R). H c) (sym (cut-push g before f))
    (kept (cut g before) f (bytes_of fs ++ after) each.0 h)))

pub of_reading : {R : Type 0} (g : Grammar R) (H : Cut R → Type 0) → ((c : Cut R) (f : Field) (after : List ℕ) → IsAllowed g c f after → H c
    → H (with_value g c f.value))
    → H (record { whole = []; begun = [] }) → (blob : List ℕ) (records : List R) (fault : Option BlobFault) (r : Reading g blob records fault)
    → H (cut g r.fields)
of_reading g H kept start blob records fault r = after_all g H kept [] r.fields r.after r.prefix.at_start.each start
