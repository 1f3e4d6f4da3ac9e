-- What each part of a value uses is among the uses of the value.
use Rattle.std.{proofs.Common.{◌≡◌, ℕ, List, [], ◌∷◌, ◌++◌, map, flat_map, subst, sym}, specs.Prelude.{Some, option_to_list}, specs.List.{Contains}}
use Rattle.std.proofs.lemmas.List.Elements.{Contains-append_left, Contains-append_right, Contains-push}
use Rattle.ppdb_values.specs.declared.file.{FileValue.{FileValue}, DocumentValue.{DocumentValue}, MethodValue.{MethodValue}}
use Rattle.ppdb_values.specs.declared.{scope.VariableValue.{VariableValue}, scope.ConstantValue.{ConstantValue}, import.ImportScopeValue.{ImportScopeValue}}
use Rattle.ppdb_values.specs.declared.custom.CustomValue.{CustomValue}
use Rattle.ppdb_build_heaps.specs.Uses.{Piece, plain, held_by, with_held}
use Rattle.ppdb_build_canon.specs.Uses.{name_pieces, method_blob, constant_blob, import_blob, custom_blob, variables_of, constants_of, text_uses, guid_uses}
use Rattle.ppdb_build_canon.{specs.Uses.{cell_blobs, blob_uses}, proofs.Among.{among_first, among_later, among_map, among_flat_map}}

-- the blobs of a document: its name and its hash
abbrev pub document_blobs : DocumentValue → List (List Piece)
document_blobs document = name_pieces document.name ∷ plain document.hash ∷ []

module _ (value : FileValue) where
  -- ---- texts

  pub variable_name_used : (variable : VariableValue) → Contains (variables_of value) variable → Contains (text_uses value) variable.name
  variable_name_used variable is =
      Contains-append_left (map (λ v. v.name) (variables_of value)) (map (λ c. c.name) (constants_of value)) variable.name
      (among_map (λ v. v.name) (variables_of value) variable is)

  pub constant_name_used : (constant : ConstantValue) → Contains (constants_of value) constant → Contains (text_uses value) constant.name
  constant_name_used constant is =
      Contains-append_right (map (λ v. v.name) (variables_of value)) (map (λ c. c.name) (constants_of value)) constant.name
      (among_map (λ c. c.name) (constants_of value) constant is)

  -- ---- GUIDs

  abbrev guids_on : DocumentValue → List (List ℕ)
  guids_on document = option_to_list document.algorithm ++ option_to_list document.language

  abbrev document_guids : List (List ℕ)
  document_guids = flat_map guids_on value.documents

  pub algorithm_used : (document : DocumentValue) (guid : List ℕ) → Contains value.documents document → document.algorithm ≡ Some guid
      → Contains (guid_uses value) guid
  algorithm_used document guid is has =
      Contains-append_left document_guids (map (λ custom. custom.kind) value.customs) guid
      (among_flat_map guids_on value.documents document guid is
      (Contains-append_left (option_to_list document.algorithm) (option_to_list document.language) guid
      (subst (λ o. Contains (option_to_list o) guid) (sym has) (among_first guid []))))

  pub language_used : (document : DocumentValue) (guid : List ℕ) → Contains value.documents document → document.language ≡ Some guid
      → Contains (guid_uses value) guid
  language_used document guid is has =
      Contains-append_left document_guids (map (λ custom. custom.kind) value.customs) guid
      (among_flat_map guids_on value.documents document guid is
      (Contains-append_right (option_to_list document.algorithm) (option_to_list document.language) guid
      (subst (λ o. Contains (option_to_list o) guid) (sym has) (among_first guid []))))

  pub kind_used : (custom : CustomValue) → Contains value.customs custom → Contains (guid_uses value) custom.kind
  kind_used custom is =
      Contains-append_right document_guids (map (λ custom. custom.kind) value.customs) custom.kind (among_map (λ custom. custom.kind) value.customs custom is)

  -- ---- blobs

  abbrev documents_named : List (List Piece)
  documents_named = flat_map document_blobs value.documents

  abbrev methods_named : List (List Piece)
  methods_named = map method_blob value.methods

  abbrev constants_named : List (List Piece)
  constants_named = map constant_blob (constants_of value)

  abbrev imports_named : List (List Piece)
  imports_named = map import_blob value.imports

  abbrev customs_named : List (List Piece)
  customs_named = map custom_blob value.customs

  -- what is named by the first tables is named by all
  among_documents : (pieces : List Piece) → Contains documents_named pieces → Contains (cell_blobs value) pieces
  among_documents pieces is =
      Contains-append_left (documents_named ++ methods_named ++ constants_named ++ imports_named) customs_named pieces
      (Contains-append_left (documents_named ++ methods_named ++ constants_named) imports_named pieces
      (Contains-append_left (documents_named ++ methods_named) constants_named pieces (Contains-append_left documents_named methods_named pieces is)))

  pub name_named : (document : DocumentValue) → Contains value.documents document → Contains (cell_blobs value) (name_pieces document.name)
  name_named document is =
      among_documents (name_pieces document.name)
      (among_flat_map document_blobs value.documents document (name_pieces document.name) is
      (among_first (name_pieces document.name) (plain document.hash ∷ [])))

  pub hash_named : (document : DocumentValue) → Contains value.documents document → Contains (cell_blobs value) (plain document.hash)
  hash_named document is =
      among_documents (plain document.hash)
      (among_flat_map document_blobs value.documents document (plain document.hash) is
      (among_later (name_pieces document.name) (plain document.hash) (plain document.hash ∷ []) (among_first (plain document.hash) [])))

  pub method_named : (method : MethodValue) → Contains value.methods method → Contains (cell_blobs value) (method_blob method)
  method_named method is =
      Contains-append_left (documents_named ++ methods_named ++ constants_named ++ imports_named) customs_named (method_blob method)
      (Contains-append_left (documents_named ++ methods_named ++ constants_named) imports_named (method_blob method)
      (Contains-append_left (documents_named ++ methods_named) constants_named (method_blob method)
      (Contains-append_right documents_named methods_named (method_blob method) (among_map method_blob value.methods method is))))

  pub constant_named : (constant : ConstantValue) → Contains (constants_of value) constant → Contains (cell_blobs value) (constant_blob constant)
  constant_named constant is =
      Contains-append_left (documents_named ++ methods_named ++ constants_named ++ imports_named) customs_named (constant_blob constant)
      (Contains-append_left (documents_named ++ methods_named ++ constants_named) imports_named (constant_blob constant)
      (Contains-append_right (documents_named ++ methods_named) constants_named (constant_blob constant)
      (among_map constant_blob (constants_of value) constant is)))

  pub import_named : (scope : ImportScopeValue) → Contains value.imports scope → Contains (cell_blobs value) (import_blob scope)
  import_named scope is =
      Contains-append_left (documents_named ++ methods_named ++ constants_named ++ imports_named) customs_named (import_blob scope)
      (Contains-append_right (documents_named ++ methods_named ++ constants_named) imports_named (import_blob scope)
      (among_map import_blob value.imports scope is))

  pub custom_named : (custom : CustomValue) → Contains value.customs custom → Contains (cell_blobs value) (custom_blob custom)
  custom_named custom is =
      Contains-append_right (documents_named ++ methods_named ++ constants_named ++ imports_named) customs_named (custom_blob custom)
      (among_map custom_blob value.customs custom is)

  -- a blob that a cell names, and each blob whose index it holds
  pub named_used : (pieces : List Piece) → Contains (cell_blobs value) pieces → Contains (blob_uses value) pieces
  named_used pieces is = among_flat_map with_held (cell_blobs value) pieces pieces is (Contains-push (map plain (flat_map held_by pieces)) pieces)

  pub held_used : (pieces : List Piece) (content : List ℕ) → Contains (cell_blobs value) pieces → Contains (flat_map held_by pieces) content
      → Contains (blob_uses value) (plain content)
  held_used pieces content is held =
      among_flat_map with_held (cell_blobs value) pieces (plain content) is
      (Contains-append_left (map plain (flat_map held_by pieces)) (pieces ∷ []) (plain content) (among_map plain (flat_map held_by pieces) content held))
