-- What the commands of a script are about.
use Rattle.wt_script.specs.declared.word.Word.{Word}
use Rattle.wt_script.specs.declared.word.Word.TheVariants as word
use Rattle.wt_session.specs.declared.subject.Subject.{Subject}
use Rattle.wt_session.specs.declared.subject.Subject.TheVariants.{Set, Pattern, Derivation, Chain, Expansion, Partition, Text}

-- what a command is about, by its word
abbrev pub subject_of : Word → Subject
subject_of (word.Tiles n list) = Set
subject_of (word.Pattern n s cells) = Pattern
subject_of (word.Valid p) = Pattern
subject_of (word.Period p dx dy) = Pattern
subject_of (word.Fuse s axis u v) = Set
subject_of (word.Cert c) = Text
subject_of (word.Check n bytes) = Chain
subject_of (word.Upgrade n c) = Chain
subject_of (word.Lighten n c b) = Chain
subject_of (word.Expand n c w h) = Expansion
subject_of (word.Image c t) = Expansion
subject_of (word.Desub n c k p) = Expansion
subject_of (word.Bound c dx dy) = Expansion
subject_of (word.Draw p style) = Text
subject_of (word.Json m) = Text
subject_of (word.Dominoes s axis r b) = Set
subject_of (word.Surround s axis t u r b) = Set
subject_of (word.Markers s axis r b) = Set
subject_of (word.Same s t) = Set
subject_of (word.Search n s axes side r l b) = Derivation
subject_of (word.Derive n f axis side r j b) = Derivation
subject_of (word.Primitive c) = Chain
subject_of (word.Seeds c q) = Chain
subject_of (word.Census c k t) = Chain
subject_of (word.Torus n width height move1 move2 regions) = Partition
subject_of (word.Code n t x y w h) = Partition
subject_of (word.Induce n t axis) = Partition
