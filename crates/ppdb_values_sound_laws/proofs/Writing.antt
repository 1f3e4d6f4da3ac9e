-- The parts of a sound value can be written.
use Rattle.std.{proofs.Common.{ℕ, ◌≤◌, ◌<◌, [], arith}, specs.Prelude.{All, length, ◌^◌}, proofs.lemmas.List.Elements.{All-weaker}}
use Rattle.custom_info.specs.declared.kinds.{Kind.{Kind}, Kind.TheVariants.{Async as AsyncKind, Hoisted as HoistedKind, TypeDocuments as DocumentsKind, Free}}
use Rattle.custom_info.specs.{declared.kinds.Kind.TheVariants.{Unknown}, declared.stepping.AsyncStep.{AsyncStep}, AsyncStepping.{IsStep}, Kinds.{kind_of}}
use Rattle.custom_info.specs.TypeDocuments.{IsRowNumber}
use Rattle.sequence_points.specs.{Written.{CanBeWritten}, Ranges.{IsOffset}}
use Rattle.type_blobs.specs.{declared.types.Modifier.{Modifier}, Types.{IsToken}}
use Rattle.ppdb_values.specs.declared.custom.{CustomBody.{CustomBody}, CustomBody.TheVariants.{Async, Hoisted, TypeDocuments, Unread}}
use Rattle.ppdb_values.specs.declared.{file.FileValue.{FileValue}, file.MethodValue.{MethodValue}, import.ImportValue.{ImportValue}}
use Rattle.ppdb_values.specs.declared.import.ImportValue.TheVariants.{Namespace, AssemblyNamespace, Target, Xml, Alias, AssemblyAlias, NamespaceAlias}
use Rattle.ppdb_values.specs.declared.import.ImportValue.TheVariants.{AssemblyNamespaceAlias, TargetAlias}
use Rattle.ppdb_values_sound_laws.specs.{Imports.{SoundImport}, Customs.{IsBodyOfKind}, Methods.{SoundMethod}, Named.{HasRow, HasType, count}, Sound.{IsSound}}
use Rattle.ppdb_values_sound_laws.specs.Writing.{HasSpelling, IsWritable, SoundPartsCanBeWritten}

module _ (value : FileValue) (s : IsSound value) (few : length value.documents ≤ 16777215) where
  points_writable : (method : MethodValue) → SoundMethod value method → All (λ p. IsOffset p.offset) method.points → CanBeWritten method.signature method.points
  points_writable method m small =
      let signatures = s.rows.most 0x11 in
      let signature = m.signature in
      record {
        some = m.some;
        rise = m.rise;
        offsets = small;
        documents = λ k d within. let there = (m.points k d within).document in (there.0, omega (arith, there.1, few));
        spans = λ k d within. (m.points k d within).span;
        signature_is = omega (arith, signatures, signature);
      }

  body_writable : (kind : Kind) (body : CustomBody) → IsBodyOfKind value kind body → IsWritable body
  body_writable AsyncKind (Async handler steps) b =
      (b.0, All-weaker (λ (step : AsyncStep). IsStep step × (step.method ≤ count value 0x06)) IsStep (λ step is. is.0) steps b.1)
  body_writable HoistedKind (Hoisted slots) b = b
  body_writable DocumentsKind (TypeDocuments documents) b = All-weaker (HasRow value 0x30) IsRowNumber (λ row is. (is.0, omega (arith, is.1, few))) documents b
  body_writable Free (Unread content) b = tt
  body_writable Unknown (Unread content) b = tt
  body_writable _ _ b = absurd b

  row_spelled : (row : ℕ) → HasRow value 0x23 row → row < 2 ^ 29
  row_spelled row has = let most = s.rows.most 0x23 in omega (arith, has.1, most)

  import_spelled : (import : ImportValue) → SoundImport value import → HasSpelling import
  import_spelled (Namespace name) i = tt
  import_spelled (AssemblyNamespace assembly name) i = row_spelled assembly i
  import_spelled (Target target) i = i.0
  import_spelled (Xml name other) i = tt
  import_spelled (Alias name) i = tt
  import_spelled (AssemblyAlias name assembly) i = row_spelled assembly i
  import_spelled (NamespaceAlias name other) i = tt
  import_spelled (AssemblyNamespaceAlias name assembly other) i = row_spelled assembly i
  import_spelled (TargetAlias name target) i = i.0

pub parts_writable : SoundPartsCanBeWritten
parts_writable value s few = record {
  points = λ row method here. points_writable value s few method (s.methods.each row method here);
  modifiers = λ row scope here number constant there.
      All-weaker (λ (m : Modifier). HasType value m.target) (λ m. IsToken m.target)
      (λ m is. is.0) constant.modifiers ((s.scopes.each row scope here).constants number constant there).modifiers;
  bodies = λ row scope here number constant there. ((s.scopes.each row scope here).constants number constant there).body;
  imports = λ row scope here number import there. import_spelled value s few import ((s.imports.each row scope here).imports number import there);
  customs = λ row custom here. body_writable value s few (kind_of [] custom.kind) custom.value (s.customs.each row custom here).body;
}
