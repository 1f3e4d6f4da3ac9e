use Rattle.std.{proofs.Common.{◌≡◌, [], ◌∷◌, take}, specs.List.{flat_map}}
use Rattle.json.specs.Token.{begin_object}
use Rattle.ppdb_show_lines.specs.{Tokens.{member_tokens}, Views.{line_of}}
use Rattle.ppdb_show_lines.proofs.object.object_line.Given as goal

abbrev pub invariant-loop-place : goal.invariant-loop-place
invariant-loop-place l = record {
  tokens : l.writer.tokens ≡ begin_object ∷ flat_map (member_tokens (line_of l.word l.parts)) (take l.place-index l.order);
  before : l.writer.before ≡ [];
}
