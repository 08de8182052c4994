-- Each halving leaves fewer workers; a thread's closure stands between the whole and its half.
use Rattle.std.proofs.Common.{◌+◌, ◌*◌, length}
use Rattle.script_engine.proofs.rounds.+workers.Given as goal

abbrev pub decreases-work_halves-join_mut+arg2 : goal.decreases-work_halves-join_mut+arg2
decreases-work_halves-join_mut+arg2 g l = 3 * length l.left.now + 2

abbrev pub decreases-work_halves-join_mut+arg3 : goal.decreases-work_halves-join_mut+arg3
decreases-work_halves-join_mut+arg3 g l = 3 * length l.right.now + 2

abbrev pub decreases-work_all : goal.decreases-work_all
decreases-work_all g l = 3 * length l.workers.now + 1

abbrev pub decreases-work_halves : goal.decreases-work_halves
decreases-work_halves g l = 3 * length l.workers.now
