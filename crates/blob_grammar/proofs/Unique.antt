-- A blob has one reading.
use Rattle.std.proofs.Common.{◌≡◌, ℕ, List, [], ◌∷◌, ◌++◌, Option, Some, None, refl, sym, ap, subst, ◌∙◌, arith, inl, inr}
use Rattle.cli_ints.specs.Compressed.{SpellsUnsigned}
use Rattle.ppdb_base.specs.declared.{Code.{Code}, Code.TheVariants.{BlobEnd, IntegerForm, ValueRange}, BlobFault.{BlobFault}}
use Rattle.blob_grammar.specs.Grammar.{Value, number, integer, octets, Form, unsigned, signed, byte, word, fixed, rest, character, Spells, Field, Grammar, cut}
use Rattle.blob_grammar.{specs.Reading.{BeginsNoNumber, IsOutOfRange, IsFaultOf, Ends, Reading, IsReadOnce}, specs.Reader.{read_from}, proofs.Fields.{BeginsNone}}
use Rattle.blob_grammar.proofs.{Prefixes.{prefix-unique}, Readers.{read_from-reads}}

no_number : (text : List ℕ) (v : ℕ) (left : List ℕ) → SpellsUnsigned text v → BeginsNone (text ++ left) → ⊥
no_number [] v left h n = h
no_number (b ∷ []) v left h n = omega (arith, h.0)
no_number (b ∷ c ∷ []) v left h n = omega (arith, h.1)
no_number (b ∷ c ∷ d ∷ []) v left h n = h
no_number (b ∷ c ∷ d ∷ e ∷ []) v left h n = omega (arith, h.1)
no_number (b ∷ c ∷ d ∷ e ∷ f ∷ fs) v left h n = h

begins_unsigned : (bytes : List ℕ) → BeginsNoNumber (Some unsigned) bytes → BeginsNone bytes
begins_unsigned [] h = h
begins_unsigned (b ∷ bs) h = h

begins_signed : (bytes : List ℕ) → BeginsNoNumber (Some signed) bytes → BeginsNone bytes
begins_signed [] h = h
begins_signed (b ∷ bs) h = h

none_word : (bytes : List ℕ) → BeginsNoNumber (Some word) bytes → ⊥
none_word [] h = h
none_word (b ∷ bs) h = h

none_byte : (bytes : List ℕ) → BeginsNoNumber (Some byte) bytes → ⊥
none_byte [] h = h
none_byte (b ∷ bs) h = h

none_fixed : (len : ℕ) (bytes : List ℕ) → BeginsNoNumber (Some (fixed len)) bytes → ⊥
none_fixed len [] h = h
none_fixed len (b ∷ bs) h = h

none_rest : (bytes : List ℕ) → BeginsNoNumber (Some rest) bytes → ⊥
none_rest [] h = h
none_rest (b ∷ bs) h = h

none_character : (bytes : List ℕ) → BeginsNoNumber (Some character) bytes → ⊥
none_character [] h = h
none_character (b ∷ bs) h = h

none_none : (bytes : List ℕ) → BeginsNoNumber None bytes → ⊥
none_none [] h = h
none_none (b ∷ bs) h = h

apart_form : (form : Form) (text : List ℕ) (value : Value) (left : List ℕ) → Spells form text value left → BeginsNoNumber (Some form) (text ++ left) → ⊥
apart_form unsigned text (number n) left h b = no_number text n left h (begins_unsigned (text ++ left) b)
apart_form unsigned text (integer z) left h b = h
apart_form unsigned text (octets xs) left h b = h
apart_form signed text (octets xs) left h b = h
apart_form signed text (number n) left h b = h
apart_form signed text (integer z) left h b = no_number text h.0 left h.1 (begins_signed (text ++ left) b)
apart_form word text value left h b = none_word (text ++ left) b
apart_form byte text value left h b = none_byte (text ++ left) b
apart_form (fixed len) text value left h b = none_fixed len (text ++ left) b
apart_form rest text value left h b = none_rest (text ++ left) b
apart_form character text value left h b = none_character (text ++ left) b

apart : (o : Option Form) (after : List ℕ) → BeginsNoNumber o after → IsOutOfRange o after → ⊥
apart None after b r = none_none after b
apart (Some form) after b (inl r) = apart_form form r.0.bytes r.0.value r.1 r.3 (subst (λ a. BeginsNoNumber (Some form) a) r.2 b)
apart (Some form) after b (inr r) = none_character after (subst (λ f. BeginsNoNumber (Some f) after) r.0 b)

code-unique : (c d : Code) (o : Option Form) (after : List ℕ) → IsFaultOf c o after → IsFaultOf d o after → c ≡ d
code-unique BlobEnd BlobEnd o after p q = refl
code-unique BlobEnd IntegerForm o after p q = absurd (p.0 q)
code-unique BlobEnd ValueRange o after p q = absurd (p.1 q)
code-unique IntegerForm BlobEnd o after p q = absurd (q.0 p)
code-unique IntegerForm IntegerForm o after p q = refl
code-unique IntegerForm ValueRange o after p q = absurd (apart o after p q)
code-unique ValueRange BlobEnd o after p q = absurd (q.1 p)
code-unique ValueRange IntegerForm o after p q = absurd (apart o after q p)
code-unique ValueRange ValueRange o after p q = refl
code-unique BlobEnd _ o after p q = absurd q
code-unique IntegerForm _ o after p q = absurd q
code-unique ValueRange _ o after p q = absurd q
code-unique _ d o after p q = absurd p

same_fault : (a b : BlobFault) → a.code ≡ b.code → a.byte ≡ b.byte → a ≡ b
same_fault a b c d =
    ap (λ (p : Code × ℕ). let f : BlobFault = record { code = p.0; byte = p.1 } in f) (let pair : (a.code, a.byte) ≡ (b.code, b.byte) = cc in pair)

ends-unique : {R : Type 0} (g : Grammar R) (fs : List Field) (after : List ℕ) (e d : Option BlobFault) → Ends g fs after e → Ends g fs after d → e ≡ d
ends-unique g fs after None None p q = refl
ends-unique g fs after None (Some b) p q = absurd (q.0 p)
ends-unique g fs after (Some a) None p q = absurd (p.0 q)
ends-unique g fs after (Some a) (Some b) p q =
    let code : a.code ≡ b.code = code-unique a.code b.code (g.form (cut g fs).whole (cut g fs).begun) after p.2 q.2 in
    let at : a.byte ≡ b.byte = p.1 ∙ sym q.1 in
    ap (λ f. Some f) (same_fault a b code at)

-- Two readings of one blob have the same records and the same end.
pub reading-unique : {R : Type 0} (g : Grammar R) (blob : List ℕ) (a b : List R) (e d : Option BlobFault) → Reading g blob a e → Reading g blob b d
    → (a ≡ b) × (e ≡ d)
reading-unique g blob a b e d p q =
    let r : (p.fields ≡ q.fields) × (p.after ≡ q.after) = prefix-unique g blob p.fields q.fields p.after q.after p.prefix q.prefix in
    let f : p.fields ≡ q.fields = r.0 in
    let t : p.after ≡ q.after = r.1 in
    let ends : Ends g p.fields p.after d =
    subst (λ (fs : List Field). Ends g fs p.after d) (sym f) (subst (λ (x : List ℕ). Ends g q.fields x d) (sym t) q.ends) in
    (p.made ∙ ap (λ (fs : List Field). (cut g fs).whole) f ∙ sym q.made, ends-unique g p.fields p.after e d p.ends ends)

-- So each blob is read in one way.
pub read-once : {R : Type 0} (g : Grammar R) (blob : List ℕ) → IsReadOnce g blob
read-once g blob =
    let left = read_from g [] [] 0 blob in
    record {
      records = left.items;
      fault = left.fault;
      reading = read_from-reads g blob;
      one_prefix = λ a b x y p q. prefix-unique g blob a b x y p q;
      one_reading = λ others end h. reading-unique g blob others left.items end left.fault h (read_from-reads g blob);
    }
