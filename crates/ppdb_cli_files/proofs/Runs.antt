-- What may be found during each run of a replacement.
use Rattle.std.{proofs.Common.{ℕ, ◌≡◌, ◌⊎◌, Bool, true, false, List, [], ◌∷◌, ◌++◌, Option, refl, ap, ◌∙◌, sym, subst, inl, inr, lit<}, specs.Prelude.{All, Any}}
use Rattle.std.{specs.Prelude.{Contains, Result, Ok, Err, is_ok, option_map}, proofs.lemmas.List.Elements.{All-nil, All-cons, All-tail, All-append, All-push}}
use Rattle.std.{proofs.lemmas.List.Elements.{All-weaker, All-contains_itself}, specs.declared.io.Error.{Error}}
use Rattle.ppdb_cli_files.specs.declared.place.{Call.TheVariants.{Create, Write, Flush, Rename, FlushFolder, Remove, Overwrite}, Made.{Made}}
use Rattle.ppdb_cli_files.specs.declared.replace.{ReplaceError.{ReplaceError}, ReplaceError.TheVariants.{NotMade, NotWritten, NotFlushed}}
use Rattle.ppdb_cli_files.specs.{Log.{Between}, Disk.{Found, Whole, Disk, found_at, newest}, Replaces.{made, refused, NeverLoses, IsKept, IsTidy, Replaces, Fills}}
use Rattle.ppdb_cli_files.{specs.Replaces.{Puts}, proofs.Joined.{one, then, weaker}}

abbrev Fine : List ℕ → Disk → Found → Type 0
Fine bytes d f = Contains (found_at d) f ⊎ (f ≡ Whole bytes)

same : (bytes : List ℕ) (d : Disk) → All (Fine bytes d) (found_at d)
same bytes d = All-weaker (Contains (found_at d)) (Fine bytes d) (λ f h. inl h) (found_at d) (All-contains_itself (found_at d))

step : (P : Found → Type 0) (xs ys : List Found) → All P xs → All P ys → All P (xs ++ [] ++ ys)
step P xs ys h k = All-append P (xs ++ []) ys (All-append P xs [] h (All-nil P)) k

renamed : (bytes : List ℕ) (d : Disk) → All (Fine bytes d) (Whole bytes ∷ (d.after_stop ++ Whole bytes ∷ []))
renamed bytes d = All-cons (Fine bytes d) (Whole bytes) (d.after_stop ++ Whole bytes ∷ []) (inr refl)
    (All-push (Fine bytes d) d.after_stop (Whole bytes) (All-tail (Fine bytes d) d.seen d.after_stop (same bytes d)) (inr refl))

newest-push : (fs : List Found) (f : Found) → newest (fs ++ f ∷ []) ≡ f
newest-push [] f = refl
newest-push (x ∷ []) f = refl
newest-push (x ∷ y ∷ rest) f = newest-push (y ∷ rest) f

settled : (bytes : List ℕ) (d : Disk) → All (Fine bytes d) (Whole bytes ∷ newest (d.after_stop ++ Whole bytes ∷ []) ∷ [])
settled bytes d = All-cons (Fine bytes d) (Whole bytes) (newest (d.after_stop ++ Whole bytes ∷ []) ∷ []) (inr refl)
    (All-cons (Fine bytes d) (newest (d.after_stop ++ Whole bytes ∷ [])) [] (inr (newest-push d.after_stop (Whole bytes))) (All-nil (Fine bytes d)))

-- The calls that end a replacement.
abbrev pub removal : Bool → Made
removal s = record { call = Remove; succeeded = s }

abbrev unwritten : List ℕ → Bool → List Made
unwritten bytes s = made Create ∷ refused (Write bytes) ∷ removal s ∷ []

abbrev unflushed : List ℕ → Bool → List Made
unflushed bytes s = made Create ∷ made (Write bytes) ∷ refused Flush ∷ removal s ∷ []

abbrev unnamed : List ℕ → Bool → List Made
unnamed bytes s = made Create ∷ made (Write bytes) ∷ made Flush ∷ refused Rename ∷ removal s ∷ []

abbrev named : List ℕ → Bool → List Made
named bytes s = made Create ∷ made (Write bytes) ∷ made Flush ∷ made Rename ∷ record { call = FlushFolder; succeeded = s } ∷ []

-- One more moment at which the same may be found as before.
quiet : (bytes : List ℕ) (d : Disk) (rest : List Found) → All (Fine bytes d) rest → All (Fine bytes d) (found_at d ++ [] ++ rest)
quiet bytes d rest h = step (Fine bytes d) (found_at d) rest (same bytes d) h

not_made : (bytes : List ℕ) → NeverLoses bytes (refused Create ∷ [])
not_made bytes d = quiet bytes d (found_at d) (same bytes d)

three : (bytes : List ℕ) (d : Disk) → All (Fine bytes d) (found_at d ++ [] ++ (found_at d ++ [] ++ (found_at d ++ [] ++ found_at d)))
three bytes d = quiet bytes d _ (quiet bytes d _ (quiet bytes d _ (same bytes d)))

unwritten_found : (bytes : List ℕ) (s : Bool) → NeverLoses bytes (unwritten bytes s)
unwritten_found bytes true d = three bytes d
unwritten_found bytes false d = three bytes d

unflushed_found : (bytes : List ℕ) (s : Bool) → NeverLoses bytes (unflushed bytes s)
unflushed_found bytes true d = quiet bytes d _ (three bytes d)
unflushed_found bytes false d = quiet bytes d _ (three bytes d)

unnamed_found : (bytes : List ℕ) (s : Bool) → NeverLoses bytes (unnamed bytes s)
unnamed_found bytes true d = quiet bytes d _ (quiet bytes d _ (three bytes d))
unnamed_found bytes false d = quiet bytes d _ (quiet bytes d _ (three bytes d))

-- what may be found when the new file has the name, and the folder is not flushed yet
abbrev renamed_found : List ℕ → Disk → List Found
renamed_found bytes d = Whole bytes ∷ (d.after_stop ++ Whole bytes ∷ [])

-- and when it is
abbrev settled_found : List ℕ → Disk → List Found
settled_found bytes d = Whole bytes ∷ newest (d.after_stop ++ Whole bytes ∷ []) ∷ []

named_before : (bytes : List ℕ) (d : Disk) (rest : List Found) → All (Fine bytes d) rest
    → All (Fine bytes d) (found_at d ++ [] ++ (found_at d ++ [] ++ (found_at d ++ [] ++ (found_at d ++ [] ++ (renamed_found bytes d ++ [] ++ rest)))))
named_before bytes d rest h =
    quiet bytes d _ (quiet bytes d _ (quiet bytes d _ (quiet bytes d _ (step (Fine bytes d) (renamed_found bytes d) rest (renamed bytes d) h))))

named_found : (bytes : List ℕ) (s : Bool) → NeverLoses bytes (named bytes s)
named_found bytes true d = named_before bytes d (settled_found bytes d) (settled bytes d)
named_found bytes false d = named_before bytes d (renamed_found bytes d) (renamed bytes d)

-- The results of the runs.
abbrev pub Kept : List ℕ → Error → List Made → Type 0
Kept bytes e = Replaces {T = Unit {0}} bytes (Err (NotWritten e))

abbrev Unfilled : List ℕ → Error → List Made → Type 0
Unfilled bytes e = Fills {T = Unit {0}} {E = Error} bytes (Err e)

-- no new file was made
pub run_not_made : (bytes : List ℕ) (e : Error) → Replaces {T = Unit {0}} bytes (Err (NotMade e)) (refused Create ∷ [])
run_not_made bytes e = record {
  never_loses = not_made bytes;
  done = tt;
  left = refl;
  tidy = inl (λ d h. h);
  cause = (0, refused Create, lit< tt, refl, refl);
}

-- a new file that was made and not named
removed : (bytes : List ℕ) (e : Error) (calls : List Made) → NeverLoses bytes calls → IsKept calls → IsTidy calls
    → Any (λ m. m.succeeded ≡ false) calls → Kept bytes e calls
removed bytes e calls never kept tidy cause = record { never_loses = never; done = tt; left = kept; tidy = tidy; cause = cause }

run_unwritten : (bytes : List ℕ) (e : Error) (s : Bool) → Kept bytes e (unwritten bytes s)
run_unwritten bytes e true =
    removed bytes e _ (unwritten_found bytes true) (λ d. refl) (inl (λ d h. refl)) (1, refused (Write bytes), lit< tt, refl, refl)
run_unwritten bytes e false =
    removed bytes e _ (unwritten_found bytes false) (λ d. refl) (inr (2, lit< tt, refl)) (1, refused (Write bytes), lit< tt, refl, refl)

run_unflushed : (bytes : List ℕ) (e : Error) (s : Bool) → Kept bytes e (unflushed bytes s)
run_unflushed bytes e true =
    removed bytes e _ (unflushed_found bytes true) (λ d. refl) (inl (λ d h. refl)) (2, refused Flush, lit< tt, refl, refl)
run_unflushed bytes e false =
    removed bytes e _ (unflushed_found bytes false) (λ d. refl) (inr (3, lit< tt, refl)) (2, refused Flush, lit< tt, refl, refl)

run_unnamed : (bytes : List ℕ) (e : Error) (s : Bool) → Kept bytes e (unnamed bytes s)
run_unnamed bytes e true =
    removed bytes e _ (unnamed_found bytes true) (λ d. refl) (inl (λ d h. refl)) (3, refused Rename, lit< tt, refl, refl)
run_unnamed bytes e false =
    removed bytes e _ (unnamed_found bytes false) (λ d. refl) (inr (4, lit< tt, refl)) (3, refused Rename, lit< tt, refl, refl)

-- the new file was not written, flushed or named
pub run_not_written : (bytes : List ℕ) (e f : Error) (s : Bool) (calls : List Made) → Unfilled bytes f calls → Kept bytes e (made Create ∷ calls ++ removal s ∷ [])
run_not_written bytes e f s calls (inl h) = subst (λ cs. Kept bytes e (made Create ∷ cs ++ removal s ∷ [])) (sym h) (run_unwritten bytes e s)
run_not_written bytes e f s calls (inr (inl h)) = subst (λ cs. Kept bytes e (made Create ∷ cs ++ removal s ∷ [])) (sym h) (run_unflushed bytes e s)
run_not_written bytes e f s calls (inr (inr h)) = subst (λ cs. Kept bytes e (made Create ∷ cs ++ removal s ∷ [])) (sym h) (run_unnamed bytes e s)

-- the new file has the name, and the folder was flushed or not
pub run_done : (bytes : List ℕ) → Replaces {T = Unit {0}} bytes (Ok tt) (named bytes true)
run_done bytes = record {
  never_loses = named_found bytes true;
  done = λ d. ap (λ f. Whole bytes ∷ f ∷ []) (newest-push d.after_stop (Whole bytes));
  left = tt;
  tidy = inl (λ d h. refl);
  cause = tt;
}

pub run_not_flushed : (bytes : List ℕ) (e : Error) → Replaces {T = Unit {0}} bytes (Err (NotFlushed e)) (named bytes false)
run_not_flushed bytes e = record {
  never_loses = named_found bytes false;
  done = tt;
  left = λ d. refl;
  tidy = inl (λ d h. refl);
  cause = (4, refused FlushFolder, lit< tt, refl, refl);
}

-- the whole run of a new file that was made, and not written, flushed or named
pub not_written_between : (a b c d : Option (List Made)) (bytes : List ℕ) (e f : Error) (s : Bool) → b ≡ option_map (λ calls. calls ++ made Create ∷ []) a
    → Between b c (Unfilled bytes f) → d ≡ option_map (λ calls. calls ++ removal s ∷ []) c → Between a d (Kept bytes e)
not_written_between a b c d bytes e f s created filled removed =
    let R : List Made → Type 0 = Kept bytes e in
    let After : List Made → Type 0 = λ zs. (calls : List Made) × Unfilled bytes f calls × (zs ≡ calls ++ removal s ∷ []) in
    then a b d (λ xs. xs ≡ made Create ∷ []) After R
    (one a b (made Create) created)
    (then b c d (Unfilled bytes f) (λ ys. ys ≡ removal s ∷ []) After filled (one c d (removal s) removed) (λ xs ys p q. (xs, p, ap (λ t. xs ++ t) q)))
    (λ xs ys p q. subst (λ u. R (u ++ ys)) (sym p) (subst (λ v. R ((made Create ∷ []) ++ v)) (sym q.2) (run_not_written bytes e f s q.0 q.1)))

-- the new file is written, flushed and named
abbrev filling : List ℕ → List Made
filling bytes = made (Write bytes) ∷ made Flush ∷ made Rename ∷ []

abbrev folder_flush : Bool → Made
folder_flush s = record { call = FlushFolder; succeeded = s }

-- the whole run of a new file that has the name
pub named_between : (a b c d : Option (List Made)) (bytes : List ℕ) (s : Bool) (R : List Made → Type 0) → b ≡ option_map (λ calls. calls ++ made Create ∷ []) a
    → Between b c (λ calls. calls ≡ filling bytes) → d ≡ option_map (λ calls. calls ++ folder_flush s ∷ []) c → R (named bytes s) → Between a d R
named_between a b c d bytes s R created filled flushed holds =
    let Rest : List Made → Type 0 = λ ys. ys ≡ filling bytes ++ folder_flush s ∷ [] in
    then a b d (λ xs. xs ≡ made Create ∷ []) Rest R
    (one a b (made Create) created)
    (then b c d (λ xs. xs ≡ filling bytes) (λ ys. ys ≡ folder_flush s ∷ []) Rest filled (one c d (folder_flush s) flushed)
    (λ xs ys p q. ap (λ u. u ++ ys) p ∙ ap (λ v. filling bytes ++ v) q))
    (λ xs ys p q. subst (λ u. R (u ++ ys)) (sym p) (subst (λ v. R ((made Create ∷ []) ++ v)) (sym q) holds))

-- what is known of a refused new file, by the parts of the error
only_tried : (a b : Option (List Made)) (bytes : List ℕ) (result : Result (Unit {0}) ReplaceError) (x : ReplaceError) (e : Error) → result ≡ Err x → x ≡ NotMade e
    → Between a b (Replaces bytes result) → Between a b (λ calls. calls ≡ refused Create ∷ [])
only_tried a b bytes result x e is x-is h =
    let Run : Result (Unit {0}) ReplaceError → List Made → Type 0 = Replaces bytes in
    weaker a b (Run (Err (NotMade e))) (λ calls. calls ≡ refused Create ∷ []) (subst (λ r. Between a b (Run r)) (is ∙ ap Err x-is) h) (λ calls p. p.left)

abbrev overwrite : {T E : Type 0} → List ℕ → Result T E → Made
overwrite bytes r = record { call = Overwrite bytes; succeeded = is_ok r }

run_in_place : (bytes : List ℕ) (takes_new : Bool) (r : Result (Unit {0}) Error) → Puts bytes takes_new r (refused Create ∷ overwrite bytes r ∷ [])
run_in_place bytes takes_new (Ok x) = record {
  never_loses = inr (inr (made (Overwrite bytes) ∷ [], refl));
  done = λ d. refl;
  tidy = inl (λ d h. h);
  cause = tt;
}
run_in_place bytes takes_new (Err e) = record {
  never_loses = inr (inr (refused (Overwrite bytes) ∷ [], refl));
  done = tt;
  tidy = inl (λ d h. h);
  cause = (0, refused Create, lit< tt, refl, refl);
}

-- the whole run of a file that was written itself, since no new one could be made
pub in_place_between : (a b c : Option (List Made)) (bytes : List ℕ) (takes_new : Bool) (result : Result (Unit {0}) ReplaceError) (x : ReplaceError) (e : Error)
    (r : Result (Unit {0}) Error) → result ≡ Err x → x ≡ NotMade e → Between a b (Replaces bytes result)
    → c ≡ option_map (λ calls. calls ++ overwrite bytes r ∷ []) b → Between a c (Puts bytes takes_new r)
in_place_between a b c bytes takes_new result x e r is x-is tried written =
    let R : List Made → Type 0 = Puts bytes takes_new r in
    then a b c (λ xs. xs ≡ refused Create ∷ []) (λ ys. ys ≡ overwrite bytes r ∷ []) R
    (only_tried a b bytes result x e is x-is tried)
    (one b c (overwrite bytes r) written)
    (λ xs ys p q. subst (λ u. R (u ++ ys)) (sym p) (subst (λ v. R ((refused Create ∷ []) ++ v)) (sym q) (run_in_place bytes takes_new r)))
