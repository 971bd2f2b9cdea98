-- The first lines of the commands, each by its form and its limits, from left to right.
use Rattle.std.specs.Prelude.{ℕ, ℤ, List, Result, codes}
use Rattle.wt_golden.specs.Fractions.{Fraction}
use Rattle.wt_grid.specs.declared.axis.Side.{Side}
use Rattle.wt_grid.specs.declared.axis.Axis.{Axis}
use Rattle.wt_line.specs.declared.faults.What.{What}
use Rattle.wt_line.specs.declared.faults.What.TheVariants.{Tiles, Steps, Width, Height, Power, Turns}
use Rattle.wt_line.specs.Limits.{small, radius, number_from_one}
use Rattle.wt_line.specs.Directions.{axis, side}
use Rattle.wt_grid.specs.declared.limits.TheConstants.{MAX_SIDE, MAX_TILES}
use Rattle.wt_pattern.specs.declared.drawing.Style.{Style}
use Rattle.wt_script.specs.declared.limits.TheConstants.{MAX_LEVELS, MAX_MADE, MAX_POWER, MAX_TURNS}
use Rattle.wt_text.specs.Lines.{Line}
use Rattle.wt_text.specs.Readers.{LineFault, TextFault, number_to, value_behind, both, whole}
use Rattle.wt_script.specs.Tokens.{name, large, component, style, axes_word, golden}

-- a line's form, or the first limit that it passes
abbrev pub Form : Type 0 → Type 0
Form A = List (List ℕ) → Result A (LineFault What)

-- some lines from a place on, and the place behind them
abbrev pub Part : Type 0 → Type 0
Part A = ℕ × List Line → Result (A × (ℕ × List Line)) (TextFault What)

-- tiles N n
unfoldable pub tiles_form : Form (List ℕ × ℕ)
tiles_form = whole (value_behind (codes "tiles") (both name (number_to MAX_TILES Tiles)))

-- pattern N S w h
unfoldable pub pattern_form : Form (List ℕ × (List ℕ × (ℕ × ℕ)))
pattern_form = whole (value_behind (codes "pattern") (both name (both name (both (number_from_one MAX_SIDE Width) (number_from_one MAX_SIDE Height)))))

-- valid P, cert C, primitive C or json M
unfoldable pub named_form : List ℕ → Form (List ℕ)
named_form w = whole (value_behind w name)

-- period P x y, or bound C x y
unfoldable pub vector_form : List ℕ → Form (List ℕ × (ℤ × ℤ))
vector_form w = whole (value_behind w (both name (both component component)))

-- dominoes S A r B, or markers S A r B
unfoldable pub windows_form : List ℕ → Form (List ℕ × (Axis × (ℕ × ℕ)))
windows_form w = whole (value_behind w (both name (both axis (both radius large))))

-- surround S A a b r B
unfoldable pub surround_form : Form (List ℕ × (Axis × (ℕ × (ℕ × (ℕ × ℕ)))))
surround_form = whole (value_behind (codes "surround") (both name (both axis (both small (both small (both radius large))))))

-- fuse S A u v
unfoldable pub fuse_form : Form (List ℕ × (Axis × (ℕ × ℕ)))
fuse_form = whole (value_behind (codes "fuse") (both name (both axis (both small small))))

-- same S T, or upgrade N C
unfoldable pub names_form : List ℕ → Form (List ℕ × List ℕ)
names_form w = whole (value_behind w (both name name))

-- derive N F A W r j B
unfoldable pub derive_form : Form (List ℕ × (List ℕ × (Axis × (Side × (ℕ × (ℕ × ℕ))))))
derive_form = whole (value_behind (codes "derive") (both name (both name (both axis (both side (both radius (both small large)))))))

-- search N S X W r L B
unfoldable pub search_form : Form (List ℕ × (List ℕ × (List Axis × (Side × (ℕ × (ℕ × ℕ))))))
search_form = whole (value_behind (codes "search") (both name (both name (both axes_word (both side (both radius (both (number_from_one MAX_LEVELS Steps) large)))))))

-- check N n
unfoldable pub check_form : Form (List ℕ × ℕ)
check_form = whole (value_behind (codes "check") (both name large))

-- lighten N C B
unfoldable pub lighten_form : Form (List ℕ × (List ℕ × ℕ))
lighten_form = whole (value_behind (codes "lighten") (both name (both name large)))

-- expand N C w h
unfoldable pub expand_form : Form (List ℕ × (List ℕ × (ℕ × ℕ)))
expand_form = whole (value_behind (codes "expand") (both name (both name (both (number_from_one MAX_MADE Width) (number_from_one MAX_MADE Height)))))

-- image C t
unfoldable pub image_form : Form (List ℕ × ℕ)
image_form = whole (value_behind (codes "image") (both name small))

-- desub N C k P
unfoldable pub desub_form : Form (List ℕ × (List ℕ × (ℕ × List ℕ)))
desub_form = whole (value_behind (codes "desub") (both name (both name (both small name))))

-- seeds C q
unfoldable pub seeds_form : Form (List ℕ × ℕ)
seeds_form = whole (value_behind (codes "seeds") (both name (number_from_one MAX_POWER Power)))

-- census C k t
unfoldable pub census_form : Form (List ℕ × (ℕ × ℕ))
census_form = whole (value_behind (codes "census") (both name (both (number_to MAX_TURNS Turns) small)))

-- code N T Gx Gy w h
unfoldable pub code_form : Form (List ℕ × (List ℕ × (Fraction × (Fraction × (ℕ × ℕ)))))
code_form = whole (value_behind (codes "code") (both name (both name (both golden (both golden (both (number_from_one MAX_MADE Width) (number_from_one MAX_MADE Height)))))))

-- induce N T A
unfoldable pub induce_form : Form (List ℕ × (List ℕ × Axis))
induce_form = whole (value_behind (codes "induce") (both name (both name axis)))

-- draw P numbers, or draw P boxes
unfoldable pub draw_form : Form (List ℕ × Style)
draw_form = whole (value_behind (codes "draw") (both name style))
