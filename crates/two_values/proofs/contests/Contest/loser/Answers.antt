-- `loser` meets its contract.
use Rattle.two_values.proofs.LoserLaws.{loses-second, loses-first}
use Rattle.two_values.proofs.contests.Contest.loser.Goals as goal

pub returns-in-First : goal.returns-in-First
returns-in-First c = loses-second _ _ _ _ _ _ _ _ _ _ _ c.row.ensures c.row-2.ensures c.if-not-marks-s.false c.if-not-marks-t.false (c.side.ensures.first cc)

pub returns-in-Second : goal.returns-in-Second
returns-in-Second c = loses-first _ _ _ _ _ _ _ _ _ _ _ c.row.ensures c.row-2.ensures c.if-not-marks-s.false c.if-not-marks-t.false (c.side.ensures.second cc)
