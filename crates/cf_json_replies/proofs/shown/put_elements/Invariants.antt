use Rattle.std.proofs.Common.{◌≡◌, ◌++◌, map, drop}
use Rattle.serde_json.specs.View.{items_of}
use Rattle.serde_json.specs.Written.{items_text}
use Rattle.cf_json_replies.proofs.shown.put_elements.Given as goal

abbrev pub invariant-loop-element : goal.invariant-loop-element
invariant-loop-element g l =
    l.out.items ++ items_text l.later (items_of (map g.T.Element.value (drop l.element-index l.elements))) ≡ l.initial.out.items ++ items_text l.initial.later (items_of (map g.T.Element.value l.elements))
