-- What holds in any case holds where a text may be cut off.
use Rattle.std.{proofs.Common.{ℕ, List}, specs.Prelude.{Option, Some, None, Result, Ok, Err, IfErr}}
use Rattle.ppdb_base.{specs.Files.{Files}, specs.Written.{AppendsPrefix}, proofs.Written.{prefix_nothing}}
use Rattle.ppdb_run_stops.specs.{declared.stop.Stop.{Stop}, Causes.{Cause, Refusal, Unread, Unwritten, Unput, OutOfMemory, cause_of, OnCut}}
use Rattle.ppdb_run.specs.Ends.{OnTask}
use Rattle.ppdb_run_words.specs.Words.{Task}

pub on_cut : {P : Type 0} (cause : Cause) → P → OnCut cause P
on_cut (Refusal outcome) p = tt
on_cut (Unread name) p = tt
on_cut (Unwritten name) p = tt
on_cut Unput p = p
on_cut OutOfMemory p = p

abbrev at_stop : (T : Type 0) → Stop → Result T Stop
at_stop T stop = Err stop

-- where nothing was put yet, nothing of the text was
pub cut_nothing : (T : Type 0) (task : Task) (files : Option Files) (stop : Stop) (written : Option (List ℕ))
    → OnTask task files (λ due. IfErr (at_stop T stop) (λ s. OnCut (cause_of s) (AppendsPrefix written written due.text)))
cut_nothing T task None stop written = record { holds = tt }
cut_nothing T task (Some all) stop written = record { holds = λ due is. on_cut (cause_of stop) (prefix_nothing written due.text) }

pub nothing_cut : {T : Type 0} (result : Result T Stop) (written : Option (List ℕ)) (text : List ℕ)
    → IfErr result (λ s. OnCut (cause_of s) (AppendsPrefix written written text))
nothing_cut (Ok x) written text = tt
nothing_cut (Err stop) written text = on_cut (cause_of stop) (prefix_nothing written text)
