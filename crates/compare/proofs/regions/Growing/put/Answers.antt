use Rattle.std.proofs.Common.{sym, refl, ◌∙◌, arith}
use Rattle.compare.proofs.Puts.{put_behind}
use Rattle.compare.proofs.regions.Growing.put.Goals as goal

pub returns : goal.returns
returns g c =
    let list = c.args.self.now in
    record { written = put_behind g.R.Family.inside list.places.now list.count c.args.region (omega (arith, list.fits)) (sym c.is_standing.ensures ∙ c.if-is_standing.false); lender = refl }
