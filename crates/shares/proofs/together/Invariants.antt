-- The steps before this one have been made by both.
use Rattle.std.proofs.Common.{◌≡◌, ◌*◌, take, drop}
use Rattle.shares.specs.Together.{RoomLeft, two_of, together_of}
use Rattle.shares.proofs.together.Given as goal

abbrev pub invariant-loop-step : goal.invariant-loop-step
invariant-loop-step l =
    (two_of l.system.count l.first l.second ≡ together_of l.system (take l.step-index l.steps) (two_of l.system.count l.initial.first l.initial.second))
    × (drop (6 * l.system.count) l.first ≡ drop (6 * l.system.count) l.initial.first)
    × (drop (6 * l.system.count) l.second ≡ drop (6 * l.system.count) l.initial.second)
    × RoomLeft l.system.count l.initial.work l.work l.initial.rows l.rows
