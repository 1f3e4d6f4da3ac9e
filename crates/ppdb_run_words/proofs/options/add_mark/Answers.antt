use Rattle.uuid.specs.Text.{parsed}
use Rattle.ppdb_run_words.proofs.Choices.{no_mark}
use Rattle.ppdb_run_words.proofs.options.add_mark.Goals as goal

pub returns-in-Ok : goal.returns-in-Ok
returns-in-Ok c = rw (← c.in-Ok.ensures.bytes, ← c.to_bytes_le.ensures) c.add.ensures.ok

pub returns-in-Err : goal.returns-in-Err
returns-in-Err c = no_mark (parsed c.args.word.now) (λ bytes e. absurd (let not = c.in-Err.ensures.ok.1 (bytes, e) in cc)) c.args.marks.now
