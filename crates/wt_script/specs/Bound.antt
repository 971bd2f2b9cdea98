-- The names that commands bind.
use Rattle.std.specs.Prelude.{◌≡◌, ℕ, true, List, Option, None, Some, IfSome}
use Rattle.wt_text.specs.Spellings.{AllFit}
use Rattle.wt_script.specs.declared.word.Word.{Word}
use Rattle.wt_script.specs.declared.word.Word.TheVariants.{Tiles, Pattern, Valid, Period, Dominoes, Surround, Markers, Fuse, Same, Derive, Search, Cert, Check, Upgrade, Lighten, Expand, Image, Desub, Bound, Primitive, Seeds, Census, Draw, Json, Torus, Code, Induce}
use Rattle.wt_script.specs.declared.word.Command.{Command}
use Rattle.wt_script.specs.Tokens.{is_name}

-- the name that a command binds, if it binds one
abbrev pub bound_name : Word → Option (List ℕ)
bound_name (Tiles name list) = Some name
bound_name (Pattern name set cells) = Some name
bound_name (Valid pattern) = None
bound_name (Period pattern dx dy) = None
bound_name (Dominoes set axis radius budget) = None
bound_name (Surround set axis a b radius budget) = None
bound_name (Markers set axis radius budget) = None
bound_name (Fuse set axis u v) = None
bound_name (Same from to) = None
bound_name (Derive name base axis side radius class budget) = Some name
bound_name (Search name set axes side radius levels budget) = Some name
bound_name (Cert chain) = None
bound_name (Check name lines) = Some name
bound_name (Upgrade name chain) = Some name
bound_name (Lighten name chain budget) = Some name
bound_name (Expand name chain width height) = Some name
bound_name (Image chain tile) = None
bound_name (Desub name chain step pattern) = Some name
bound_name (Bound chain dx dy) = None
bound_name (Primitive chain) = None
bound_name (Seeds chain power) = None
bound_name (Census chain turns tile) = None
bound_name (Draw pattern style) = None
bound_name (Json value) = None
bound_name (Torus name width height move1 move2 regions) = Some name
bound_name (Code name torus x y width height) = Some name
bound_name (Induce name torus axis) = Some name

-- the name that a command binds is well formed
abbrev pub BindsName : Word → Type 0
BindsName word = IfSome (bound_name word) (λ name. is_name name ≡ true)

-- so it is with each command of a script
abbrev pub AllBindNames : List Command → Type 0
AllBindNames cs = AllFit (λ c. BindsName c.word) cs
