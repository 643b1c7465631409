-- A parser that took one more argument of its own.
use Rattle.std.proofs.Common.{◌≡◌, ◌∙◌, ap₂, false}
use Rattle.clap.specs.Words.{AddsArg, App, Rule, app_of, rule_of, with_rule}
use Rattle.clap.specs.declared.builder.arg.Arg.{Arg}
use Rattle.clap.specs.declared.builder.command.Command.{Command}

pub added_rule : (old new : Command) (a : Arg) (before : App) (r : Rule) → AddsArg old a new → a.global ≡ false → rule_of a ≡ r → app_of old ≡ before → app_of new ≡ with_rule before r
added_rule old new a before r adds own is told = adds.shape own ∙ ap₂ with_rule told is
