-- A command that took one more argument of its own.
use Rattle.std.proofs.Common.{◌≡◌, ◌∙◌, ap, ap₂, subst, Bool, false, ◌||◌, List, [], ◌∷◌, ◌++◌, Result, Ok, Err, IfOk}
use Rattle.cf_base.proofs.Common.{IfOk-weaker, AllocError}
use Rattle.clap.specs.Words.{AddsArg, AddsSubcommand, App, Rule, Shape, Text, app_of, rule_of, with_subcommand}
use Rattle.clap.specs.Simple.{shape_of, with_rule}
use Rattle.clap.specs.declared.Command.TheViews.{out-Command as fields_of}
use Rattle.clap.specs.declared.builder.command.Command.{Command}
use Rattle.clap.specs.declared.builder.arg.Arg.{Arg}
use Rattle.cf_run_words.specs.CommandLine.{app}

pub told_more : (old new : Command) (a : Arg) (name : Text) (rules : List Rule) (r : Rule) → AddsArg old a new → a.global ≡ false → rule_of a ≡ r → app_of old ≡ app name rules
    → app_of new ≡ app name (rules ++ r ∷ [])
told_more old new a name rules r h own is told = h.shape own ∙ ap₂ with_rule told is

pub local_more : (old new : Command) (a : Arg) → AddsArg old a new → a.global ≡ false → (fields_of old).has_globals ≡ false → (fields_of new).has_globals ≡ false
local_more old new a h own local = h.globals ∙ ap₂ (λ (x y : Bool). x || y) local own

-- a command that took one more command
abbrev pub Told : App → Command → Type 0
Told a c = app_of c ≡ a

abbrev pub Leaf : Shape → Command → Type 0
Leaf s c = (shape_of c ≡ s) × ((fields_of c).has_globals ≡ false)

pub grown : (x y z : Result Command AllocError) (a : App) (s : Shape) → IfOk x (Told a) → IfOk y (Leaf s)
    → IfOk z (λ r. (c : Command) × (d : Command) × (x ≡ Ok c) × (y ≡ Ok d) × AddsSubcommand c d r) → IfOk z (Told (with_subcommand a s))
grown x y z a s of_x of_y h =
    IfOk-weaker z _ _ (λ r g.
    let told : Told a g.0 = subst (λ w. IfOk w (Told a)) g.2 of_x in
    let leaf : Leaf s g.1 = subst (λ w. IfOk w (Leaf s)) g.3 of_y in
    g.4.shape leaf.1 ∙ ap₂ with_subcommand told leaf.0) h

pub leaf_of : (y : Result Command AllocError) (a : App) → IfOk y (Told a) → IfOk y (λ c. (fields_of c).has_globals ≡ false) → IfOk y (Leaf a.top)
leaf_of (Ok c) a told local = (ap (λ (b : App). b.top) told, local)
leaf_of (Err e) a told local = tt
