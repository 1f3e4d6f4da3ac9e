use Rattle.std.{proofs.Common.{◌≡◌, ◌∙◌, Some, ap}, specs.FinMap.{get}}
use Rattle.ppdb_base.specs.Steady.{SteadyValue}
use Rattle.ppdb_library.{specs.Folder.{with_made}, specs.Pieces.{files_in}, proofs.Made.{lent_alone, lent_other, made_here}}
use Rattle.ppdb_library.proofs.folder.LentFolder.get.Goals as goal
use Rattle.ppdb_library.proofs.folder.LentFolder.get.Goals.{in_default-via-in-Some+else-eq, in_default-via-in_default}

pub returns-in-Some : goal.returns-in-Some
returns-in-Some c =
    let all : with_made (files_in c.self.inside.files.now c.self.inside.pieces.now) c.self.inside.made ≡ c.args.self.now.files =
    ap (λ (f : SteadyValue). f.files) c.self.view_is in
    ap Some c.as_slice.ensures ∙ made_here c.args.self.now.files (files_in c.self.inside.files.now c.self.inside.pieces.now) c.self.inside.made c.in-Some.made
    c.args.name.now c.as_str.result.now all c.in-Some.is c.as_str.ensures.value c.if-eq.ensures

pub returns-in_default : goal.returns-in_default
returns-in_default c =
    let lent = files_in c.self.inside.files.now c.self.inside.pieces.now in
    let all : with_made lent c.self.inside.made ≡ c.args.self.now.files = ap (λ (f : SteadyValue). f.files) c.self.view_is in
    c.find_file.ensures ∙ (ap (get lent) c.as_bytes.ensures.value ∙ elim c.in_default.branch [
      | in_default-via-in-Some+else-eq w ↦ lent_other c.args.self.now.files lent c.self.inside.made w.in-Some.made c.args.name.now
          w.as_str.result.now all w.in-Some.is
          w.as_str.ensures.value w.if-eq.ensures
      | in_default-via-in_default w ↦ lent_alone c.args.self.now.files lent c.self.inside.made c.args.name.now all w.in_default.is
    ])
