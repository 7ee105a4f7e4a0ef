use Rattle.std.proofs.Common.{refl}
use Rattle.cpp_blocks.proofs.StartLaws.{yes_listed}
use Rattle.cpp_blocks_rows.proofs.starts.always_built.Goals as goal

pub returns-clause-listed : goal.returns-clause-listed
returns-clause-listed c = yes_listed _ refl c.new.ensures
