use Rattle.std.proofs.Common.{◌∙◌, rules, tests}
use Rattle.std.proofs.lemmas.Iterator.{YieldsList-from_slice}
use Rattle.std.proofs.lemmas.Iterator.Search.{position_from_yields_List}
use Rattle.compare.specs.Rows.{precedes}
use Rattle.compare.proofs.Ranked.{place_found}
use Rattle.compare.proofs.rows.rank.Goals as goal

pub returns-clause-place : goal.returns-clause-place
returns-clause-place c =
    c.unwrap_or.ensures
    ∙ place_found (precedes c.args.row) c.args.rows.now c.position.result (position_from_yields_List (precedes c.args.row) _ _ c.position.result c.position.ensures.ran (YieldsList-from_slice _ c.iter.ensures.rest) (λ x b q k. search (rules, tests)))
