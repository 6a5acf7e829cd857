use Rattle.std.proofs.Common.{◌≡◌, ◌∷◌, length, sym, ap, ◌∙◌, rules, arith, length-take}
use Rattle.filter.specs.States.{sealed_view}
use Rattle.compare.specs.Cells.{region_at, holes_of, occupied}
use Rattle.compare.proofs.Fronts.{written_behind}
use Rattle.compare.proofs.RowFound.{no_row_alike, no_row_empty, row_stands}
use Rattle.compare.proofs.cells.RegionList.row_of.Given as given
use Rattle.compare.proofs.cells.RegionList.row_of.Goals as goal
use Rattle.compare.proofs.cells.RegionList.row_of.Goals.{After-is_occupied}

looked : (g : given.Over) (c : After-is_occupied g) → c.is_occupied.result ≡ occupied g.R.Family.first g.R.Family.axes g.R.Family.holds g.R.Family.shifted (region_at g.R.Family.whole c.args.self.now.regions.now) (c.args.number ∷ holes_of g.R.Family.inside g.R.Family.whole c.args.self.now.regions.now c.region-region.result)
looked g c =
    let m = g.R.Family in
    let test = occupied m.first m.axes m.holds m.shifted (region_at m.whole c.args.self.now.regions.now) in
    c.is_occupied.ensures ∙ ap test (written_behind c.args.number c.write_holes_of-holes.new.out c.write_holes_of-holes.result ∙ ap (λ l. c.args.number ∷ l) c.write_holes_of-holes.ensures.found)

pub returns-then-is_alike : goal.returns-then-is_alike
returns-then-is_alike g c =
    let m = g.R.Family in
    let reject = g.A.ActionKind.reject in
    let r = c.region-region.result in
    no_row_alike m.whole m.first m.axes m.holds m.inside m.shifted g.A.ActionKind.alike c.args.self.now.regions.now (sealed_view reject c.args.left.now) (sealed_view reject c.args.right.now) c.args.number r c.region-region.ensures
    c.decided_by-left_place.result c.decided_by-right_place.result (c.decided_by-left_place.ensures (m.inside r) (λ outer b k. search rules)) (c.decided_by-right_place.ensures (m.inside r) (λ outer b k. search rules))
    (sym c.is_alike.ensures ∙ c.if-is_alike.true)

pub returns-then-not-is_occupied : goal.returns-then-not-is_occupied
returns-then-not-is_occupied g c =
    let m = g.R.Family in
    let reject = g.A.ActionKind.reject in
    let r = c.region-region.result in
    no_row_empty m.whole m.first m.axes m.holds m.inside m.shifted g.A.ActionKind.alike c.args.self.now.regions.now (sealed_view reject c.args.left.now) (sealed_view reject c.args.right.now) c.args.number r c.region-region.ensures
    c.decided_by-left_place.result c.decided_by-right_place.result (c.decided_by-left_place.ensures (m.inside r) (λ outer b k. search rules)) (c.decided_by-right_place.ensures (m.inside r) (λ outer b k. search rules))
    (sym c.is_alike.ensures ∙ c.if-is_alike.false) (sym (looked g (goal.at.returns-then-not-is_occupied g c).After-is_occupied) ∙ c.if-not-is_occupied.true)

pub returns : goal.returns
returns g c =
    let m = g.R.Family in
    let reject = g.A.ActionKind.reject in
    let r = c.region-region.result in
    let holes = c.write_holes_of-holes in
    row_stands m.whole m.first m.axes m.holds m.inside m.shifted g.A.ActionKind.alike c.args.self.now.regions.now (sealed_view reject c.args.left.now) (sealed_view reject c.args.right.now) c.args.number r c.region-region.ensures
    c.decided_by-left_place.result c.decided_by-right_place.result (c.decided_by-left_place.ensures (m.inside r) (λ outer b k. search rules)) (c.decided_by-right_place.ensures (m.inside r) (λ outer b k. search rules))
    (sym c.is_alike.ensures ∙ c.if-is_alike.false) (sym (looked g (goal.at.returns g c).After-is_occupied) ∙ c.if-not-is_occupied.false)
    holes.result (omega (arith, ap length holes.ensures.found, length-take holes.result holes.new.out, holes.ensures.within, c.args.self.now.few, holes.auto.out))
