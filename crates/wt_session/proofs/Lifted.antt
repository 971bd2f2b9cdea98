-- Answers of a part of a command, as those of the whole.
use Rattle.std.specs.Prelude.{Result, Ok, Err}
use Rattle.wt_session.specs.declared.reply.Answer.{Answer}
use Rattle.wt_session.specs.declared.reply.Answer.TheVariants.{Says, Binds}
use Rattle.wt_session.specs.declared.reply.CommandFault.{CommandFault}
use Rattle.wt_session.specs.declared.reply.CommandFault.TheVariants.{Refused, OutOfMemory}
use Rattle.wt_session.specs.Replies.{Reply, says, binds, stops}
use Rattle.wt_session.specs.Said.{Replies}

-- what holds of a reply follows from what holds of it by its part
pub lifted : (P Q : Reply → Type 0) (answer : Result Answer CommandFault) → ((reply : Reply) → P reply → Q reply) → Replies P answer → Replies Q answer
lifted P Q (Ok (Says text)) f p = f (says text) p
lifted P Q (Ok (Binds n v text)) f p = f (binds n v text) p
lifted P Q (Err (Refused status text)) f p = f (stops status text) p
lifted P Q (Err OutOfMemory) f p = p
