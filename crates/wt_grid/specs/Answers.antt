-- Answers of calls that may fail: what is given, and by which fault they fail.
use Rattle.std.specs.Prelude.{◌≡◌, ◌⊎◌, Bool, true, false, Option, None, Some, Result, MatchResult}

-- the call fails exactly where there is a fault, and by that one
abbrev pub FailsBy : {T E : Type 0} → Result T E → Option E → Type 0
FailsBy result fault = MatchResult result (λ _. fault ≡ None) (λ e. fault ≡ Some e)

-- the same, where one other error, as that of memory, may come in place of any answer
abbrev pub FailsByOr : {T E : Type 0} → Result T E → Option E → E → Type 0
FailsByOr result fault other = MatchResult result (λ _. fault ≡ None) (λ e. (fault ≡ Some e) ⊎ (e ≡ other))

-- the call gives this value exactly where the test holds
abbrev pub GivesIf : {T E : Type 0} → Result T E → T → Bool → Type 0
GivesIf result value test = MatchResult result (λ v. (v ≡ value) × (test ≡ true)) (λ _. test ≡ false)

-- the call gives this value exactly where there is no fault, and else fails by the fault
abbrev pub GivesUnless : {T E : Type 0} → Result T E → T → Option E → Type 0
GivesUnless result value fault = MatchResult result (λ v. (fault ≡ None) × (v ≡ value)) (λ e. fault ≡ Some e)

-- the call takes in what it was given exactly where that has no fault, and else hands it back beside the fault
abbrev pub TakesUnless : {T E : Type 0} → Result T (T × E) → T → Option E → Type 0
TakesUnless result given fault = MatchResult result (λ v. (v ≡ given) × (fault ≡ None)) (λ e. (e.0 ≡ given) × (fault ≡ Some e.1))

-- the call gives this value exactly where the value passes the test
abbrev pub GivesWhere : {T E : Type 0} → Result T E → T → (T → Bool) → Type 0
GivesWhere result value test = GivesIf result value (test value)
