-- Numbers that are written, and the types that they name.
use Rattle.std.proofs.Common.{◌≡◌, ℕ, ◌+◌, ◌*◌, ◌/◌, ◌%◌, ◌^◌, ◌<◌, ◌≤◌, true, refl, ap, ◌∙◌, arith, ◌⊎◌, inl, inr}
use Rattle.type_blobs.specs.{declared.types.TypeToken.{TypeToken}, declared.types.TypeLimits.{TypeLimits}, Types.{table_of, tag_of, rows_of, is_type, token_of}}
use Rattle.type_blobs.specs.Types.{number_of, IsToken, IsThere}
use Rattle.blob_grammar.specs.Allowed.{is_row}

-- ---- the number of a type

tag_small : (table : ℕ) → ((table ≡ 0x02) ⊎ ((table ≡ 0x01) ⊎ (table ≡ 0x1b))) → tag_of table ≤ 2
tag_small table (inl a) = rw a (omega arith)
tag_small table (inr (inl a)) = rw a (omega arith)
tag_small table (inr (inr a)) = rw a (omega arith)

table_back : (table : ℕ) → ((table ≡ 0x02) ⊎ ((table ≡ 0x01) ⊎ (table ≡ 0x1b))) → table_of (tag_of table) ≡ table
table_back table (inl a) = rw a refl
table_back table (inr (inl a)) = rw a refl
table_back table (inr (inr a)) = rw a refl

tag-of : (row tag : ℕ) → tag ≤ 2 → (4 * row + tag) % 4 ≡ tag
tag-of row tag h = omega arith

row-of : (row tag : ℕ) → tag ≤ 2 → (4 * row + tag) / 4 ≡ row
row-of row tag h = omega arith

pub number_small : (token : TypeToken) → IsToken token → number_of token < 2 ^ 29
number_small token h = let small : tag_of token.table ≤ 2 = tag_small token.table h.0 in let row : token.row ≤ 0xffffff = h.1 in omega arith

pub token-back : (token : TypeToken) → IsToken token → token_of (number_of token) ≡ token
token-back token h =
    let small : tag_of token.table ≤ 2 = tag_small token.table h.0 in
    let a : number_of token % 4 ≡ tag_of token.table = tag-of token.row (tag_of token.table) small in
    let b : number_of token / 4 ≡ token.row = row-of token.row (tag_of token.table) small in
    let t : table_of (number_of token % 4) ≡ token.table = ap table_of a ∙ table_back token.table h.0 in
    ap (λ (p : ℕ × ℕ). let k : TypeToken = record { table = p.0; row = p.1 } in k)
    (let q : (table_of (number_of token % 4), number_of token / 4) ≡ (token.table, token.row) = cc in q)

row_there : (rows row : ℕ) → 1 ≤ row → row ≤ rows → is_row rows row ≡ true
row_there rows row low high = grind arith

pub row_is : (rows row : ℕ) → (1 ≤ row) × (row ≤ rows) → is_row rows row ≡ true
row_is rows row h = row_there rows row h.0 h.1

pub type_is : (limits : TypeLimits) (token : TypeToken) → IsToken token → IsThere limits token → is_type limits (number_of token) ≡ true
type_is limits token h there =
    let small : tag_of token.table ≤ 2 = tag_small token.table h.0 in
    let a : number_of token % 4 ≡ tag_of token.table = tag-of token.row (tag_of token.table) small in
    let b : number_of token / 4 ≡ token.row = row-of token.row (tag_of token.table) small in
    ap (λ (p : ℕ × ℕ). is_row (rows_of limits p.0) p.1) (let q : (number_of token % 4, number_of token / 4) ≡ (tag_of token.table, token.row) = cc in q)
    ∙ row_is (rows_of limits (tag_of token.table)) token.row there
