use Rattle.compare.proofs.Ranked.{put-ranked}
use Rattle.compare.proofs.rows.Ranked.put.Goals as goal

pub returns-clause-rows : goal.returns-clause-rows
returns-clause-rows c =
    let list = c.args.self.now in
    put-ranked list.rows.now list.count c.args.row c.requires c.rank-place.result c.insert_at.result c.insert_at.new.places c.rank-place.ensures.place c.insert_at.ensures.answer c.insert_at.ensures.memory
