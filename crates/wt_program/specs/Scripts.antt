-- What `run` replies to the bytes of a script.
use Rattle.std.specs.Prelude.{◌≡◌, ℕ, List, [], nat_eq, if◌then◌else◌, Result, Ok, Err}
use Rattle.wt_line.specs.declared.faults.What.{What}
use Rattle.wt_text.specs.Readers.{TextFault}
use Rattle.wt_script.specs.declared.word.Command.{Command}
use Rattle.wt_script.specs.Script.{script}
use Rattle.wt_session.specs.Runs.{IsRun}
use Rattle.wt_program.specs.declared.status.TheConstants.{ANSWERED, LIMIT, SPENT}
use Rattle.wt_program.specs.declared.reply.Reply.{Reply}
use Rattle.wt_program.specs.declared.reply.Reply.TheVariants.{Answered, Refused, Limit, Spent}
use Rattle.wt_program.specs.Faults.{fault_reply}

-- a text, by the status with which a script ends
abbrev pub by_status : ℕ → List ℕ → Reply
by_status status text =
    if nat_eq status ANSWERED then Answered text
    else if nat_eq status LIMIT then Limit text
    else if nat_eq status SPENT then Spent text
    else Refused text

-- The first fault of the text, printed alone; or the answers of the commands up to the first that is refused, and its line.
abbrev pub IsReadScriptReply : Result (List Command) (TextFault What) → Reply → Type 0
IsReadScriptReply (Err fault) reply = reply ≡ fault_reply fault
IsReadScriptReply (Ok commands) reply = (status : ℕ) × (text : List ℕ) × IsRun commands [] [] status text × (reply ≡ by_status status text)

-- the reply of `run`
abbrev pub IsScriptReply : List ℕ → Reply → Type 0
IsScriptReply bytes reply = IsReadScriptReply (script bytes) reply
