-- A history owns nothing, so threads may share it.
use denote.RattleType.{RattleType}
use denote.Param.Send.{IsSync, part_keyless}
use Rattle.recordings.specs.contracts.past.Past.{the_row}
use Rattle.recordings.proofs.past.Past.TheSendSync.Send.{send}

pub sync : (A B : RattleType) → IsSync (the_row A B)
sync A B = record { shared = λ d b o κ q. part_keyless (the_row A B) (send A B) q d b o }
