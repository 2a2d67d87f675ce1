use Rattle.tables.proofs.SkidMatchLaws.{room_short, room_enough}
use Rattle.tables.proofs.skids.room.Goals as goal

pub returns-then-lent-needed : goal.returns-then-lent-needed
returns-then-lent-needed c = search room_short

pub returns : goal.returns
returns c = search room_enough
