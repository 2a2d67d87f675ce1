use Rattle.solver.proofs.ModeLaws.{known_solved, unknown_stays}
use Rattle.solver.proofs.solving.solve.Goals as goal

pub returns : goal.returns
returns c = search known_solved

pub returns-in_default : goal.returns-in_default
returns-in_default c = search unknown_stays
