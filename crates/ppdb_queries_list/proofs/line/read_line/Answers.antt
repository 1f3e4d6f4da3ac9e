use Rattle.std.proofs.{Common.{inl, inr, sym, ◌∙◌}, lemmas.Bool.{false≢true}}
use Rattle.ppdb_queries_list.specs.Lists.{IsListed}
use Rattle.ppdb_queries_list.proofs.line.read_line.Goals as goal

pub returns-in_err-at : goal.returns-in_err-at
returns-in_err-at c = rw c.from_residual.ensures no
  where
    no : IsListed c.args.line.now → ⊥
    no (inl silent) = false≢true (sym c.if-is_silent.false ∙ c.is_silent.ensures.1 silent)
    no (inr asks) =
        c.in_err-at.ensures asks.0
        (record {
          method = asks.1.method;
          offset = asks.1.offset;
          words = asks.1.words;
          is_method = asks.1.is_method;
          is_offset = asks.1.is_offset;
        })
