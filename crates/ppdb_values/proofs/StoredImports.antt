-- The imports of values as they are stored and written.
use Rattle.std.{proofs.Common.{◌≡◌, ℕ, List, refl, ap, ◌∙◌, arith}, specs.Prelude.{Option, Some, ◌≤◌}}
use Rattle.type_blobs.specs.{declared.types.TypeToken.{TypeToken}, Imports.{ImportItem, namespace, assembly_namespace, target, xml, alias, assembly_alias}}
use Rattle.type_blobs.specs.{Imports.{namespace_alias, assembly_namespace_alias, target_alias, text_of}, Spelling.{import_item}, Types.{IsToken, token_of}}
use Rattle.type_blobs.{specs.Types.{number_of}, proofs.WrittenNumbers.{token-back}}
use Rattle.ppdb_values.specs.declared.import.{ImportValue.{ImportValue}, ImportValue.TheVariants.{Namespace, AssemblyNamespace, Target, Xml, Alias, AssemblyAlias}}
use Rattle.ppdb_values.specs.{declared.import.ImportValue.TheVariants.{NamespaceAlias, AssemblyNamespaceAlias, TargetAlias}, Imports.{import_value}}
use Rattle.ppdb_values.specs.WrittenImports.{stored_import, kind_of_import, import_numbers, target_type, AreTextsOf}

pub back : (import : ImportValue) → import_value (stored_import import) ≡ import
back (Namespace name) = refl
back (AssemblyNamespace assembly name) = refl
back (Target type) = refl
back (Xml prefix name) = refl
back (Alias name) = refl
back (AssemblyAlias name assembly) = refl
back (NamespaceAlias name other) = refl
back (AssemblyNamespaceAlias name assembly other) = refl
back (TargetAlias name type) = refl

pub forth : (item : ImportItem) → stored_import (import_value item) ≡ item
forth (namespace name) = refl
forth (assembly_namespace assembly name) = refl
forth (target type) = refl
forth (xml prefix name) = refl
forth (alias name) = refl
forth (assembly_alias name assembly) = refl
forth (namespace_alias name other) = refl
forth (assembly_namespace_alias name assembly other) = refl
forth (target_alias name type) = refl

pub numbers_stand : (heap : ℕ → Option (List ℕ)) (import : ImportValue) (a n : ℕ) → IsToken (target_type import) → AreTextsOf heap import a n
    → import_item heap (import_numbers import a n) ≡ Some (stored_import import)
numbers_stand heap (Namespace name) a n token texts = ap (λ (x : List ℕ). Some (namespace x)) texts.1
numbers_stand heap (AssemblyNamespace assembly name) a n token texts = ap (λ (x : List ℕ). Some (assembly_namespace assembly x)) texts.1
numbers_stand heap (Target type) a n token texts = ap (λ (x : TypeToken). Some (target x)) (token-back type token)
numbers_stand heap (Xml prefix name) a n token texts =
    ap (λ (x : List ℕ). Some (xml x (text_of heap n))) texts.0 ∙ ap (λ (x : List ℕ). Some (xml prefix x)) texts.1
numbers_stand heap (Alias name) a n token texts = ap (λ (x : List ℕ). Some (alias x)) texts.0
numbers_stand heap (AssemblyAlias name assembly) a n token texts = ap (λ (x : List ℕ). Some (assembly_alias x assembly)) texts.0
numbers_stand heap (NamespaceAlias name other) a n token texts =
    ap (λ (x : List ℕ). Some (namespace_alias x (text_of heap n))) texts.0 ∙ ap (λ (x : List ℕ). Some (namespace_alias name x)) texts.1
numbers_stand heap (AssemblyNamespaceAlias name assembly other) a n token texts =
    ap (λ (x : List ℕ). Some (assembly_namespace_alias x assembly (text_of heap n))) texts.0
    ∙ ap (λ (x : List ℕ). Some (assembly_namespace_alias name assembly x)) texts.1
numbers_stand heap (TargetAlias name type) a n token texts =
    ap (λ (x : List ℕ). Some (target_alias x (token_of (number_of type)))) texts.0 ∙ ap (λ (x : TypeToken). Some (target_alias name x)) (token-back type token)

pub kind_from : (import : ImportValue) → 1 ≤ kind_of_import import
kind_from (Namespace name) = omega arith
kind_from (AssemblyNamespace assembly name) = omega arith
kind_from (Target type) = omega arith
kind_from (Xml prefix name) = omega arith
kind_from (Alias name) = omega arith
kind_from (AssemblyAlias name assembly) = omega arith
kind_from (NamespaceAlias name other) = omega arith
kind_from (AssemblyNamespaceAlias name assembly other) = omega arith
kind_from (TargetAlias name type) = omega arith

pub kind_to : (import : ImportValue) → kind_of_import import ≤ 9
kind_to (Namespace name) = omega arith
kind_to (AssemblyNamespace assembly name) = omega arith
kind_to (Target type) = omega arith
kind_to (Xml prefix name) = omega arith
kind_to (Alias name) = omega arith
kind_to (AssemblyAlias name assembly) = omega arith
kind_to (NamespaceAlias name other) = omega arith
kind_to (AssemblyNamespaceAlias name assembly other) = omega arith
kind_to (TargetAlias name type) = omega arith
