-- Scaffolding: what the code's answers say of replies.
use Rattle.std.specs.Prelude.{◌≡◌, ℕ, List, Result, Ok, Err}
use Rattle.wt_session.specs.declared.reply.Answer.{Answer}
use Rattle.wt_session.specs.declared.reply.Answer.TheVariants.{Says, Binds}
use Rattle.wt_session.specs.declared.reply.CommandFault.{CommandFault}
use Rattle.wt_session.specs.declared.reply.CommandFault.TheVariants.{Refused, OutOfMemory}
use Rattle.wt_session.specs.Replies.{Reply, says, binds, stops}

-- the code's answer is a reply of which this holds; running out of memory says nothing
abbrev pub Replies : (Reply → Type 0) → Result Answer CommandFault → Type 0
Replies P (Ok (Says text)) = P (says text)
Replies P (Ok (Binds n v text)) = P (binds n v text)
Replies P (Err (Refused status text)) = P (stops status text)
Replies P (Err OutOfMemory) = Unit {0}

-- what was looked up, or the reply that says why it isn't there
abbrev pub Finds : {X Y : Type 0} → (X → Y) → Result X CommandFault → Result Y Reply → Type 0
Finds view (Ok x) found = found ≡ Ok (view x)
Finds view (Err (Refused status text)) found = found ≡ Err (stops status text)
Finds view (Err OutOfMemory) found = Unit {0}

-- the fault is a refusal with this status and this line, unless memory wants
abbrev pub IsRefusal : ℕ → List ℕ → CommandFault → Type 0
IsRefusal status line (Refused s t) = (s ≡ status) × (t ≡ line)
IsRefusal status line OutOfMemory = Unit {0}

-- the fault is a refusal of which this holds
abbrev pub IfRefused : (ℕ → List ℕ → Type 0) → CommandFault → Type 0
IfRefused P (Refused s t) = P s t
IfRefused P OutOfMemory = Unit {0}
