-- What the beat in place answers, printed and counted.
use Rattle.std.proofs.Common.{arith, rules}
use Rattle.transcript.proofs.TallyBeatLaws.{few-orders, beat-counted, beat-put}
use Rattle.transcript.proofs.tally.tally_beat.Goals as goal

pub put_beat-end-requires-clause-room : goal.put_beat-end-requires-clause-room
put_beat-end-requires-clause-room c = let a = c.args in (c.requires.1.1, few-orders a.set.now a.w.now a.lent c.requires.0 (search rules) c.beat_known-b.ensures)

pub put_beat-end-requires-clause-long : goal.put_beat-end-requires-clause-long
put_beat-end-requires-clause-long c = let a = c.args in let n = few-orders a.set.now a.w.now a.lent c.requires.0 (search rules) c.beat_known-b.ensures in omega (arith, n)

pub count_fit-requires : goal.count_fit-requires
count_fit-requires c = let a = c.args in (c.requires.1.0, few-orders a.set.now a.w.now a.lent c.requires.0 (search rules) c.beat_known-b.ensures)

pub returns-clause-totals_after : goal.returns-clause-totals_after
returns-clause-totals_after c = let a = c.args in beat-counted a.set.now a.w.now a.lent c.requires.0 (search rules) c.beat_known-b.ensures c.count_fit.ensures

pub returns-clause-put : goal.returns-clause-put
returns-clause-put c = let a = c.args in beat-put a.set.now a.w.now a.lent c.requires.0 (search rules) c.beat_known-b.ensures c.put_beat-end.ensures
