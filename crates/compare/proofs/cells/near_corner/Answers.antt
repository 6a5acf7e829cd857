use Rattle.std.proofs.Common.{◌∙◌, ap, fold, rules, tests}
use Rattle.std.specs.List.{range_with_len}
use Rattle.std.proofs.lemmas.Iterator.Consumers.{fold_from_yields_List}
use Rattle.family.specs.declared.edges.Edge.TheVariants.{Near}
use Rattle.compare.proofs.Cornered.{cornered_folded, all_axes}
use Rattle.compare.proofs.cells.near_corner.Goals as goal

pub returns : goal.returns
returns g c =
    let m = g.R.Family in
    fold_from_yields_List _ (λ p axis. m.shifted p axis Near c.args.region) c.first_point.result c.fold.result c.fold.ensures.ran
    (all_axes c.new.result m.axes c.new.ensures.start (c.new.ensures.end ∙ c.axis_count.ensures) c.new.ensures.exhausted)
    (λ a x b q k. search (rules, tests))
    ∙ ap (λ p. fold (λ q axis. m.shifted q axis Near c.args.region) p (range_with_len 1 m.axes)) c.first_point.ensures
    ∙ cornered_folded m.shifted c.args.region m.axes 1 m.first
