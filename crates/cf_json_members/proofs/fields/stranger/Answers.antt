use Rattle.std.proofs.Common.{map, sym, ◌∙◌, ap, option_map, string_bytes}
use Rattle.serde_json.specs.View.{view}
use Rattle.cf_json_members.proofs.Names.{stranger_is, bytes_of}
use Rattle.cf_json_members.proofs.fields.stranger.Goals as goal

pub returns-in-Some : goal.returns-in-Some
returns-in-Some c =
    bytes_of c.strange_key.result ∙ ap (option_map string_bytes) c.strange_key.ensures.found
    ∙ sym (stranger_is (map (λ n. n.now) c.args.shared.now) (map (λ n. n.now) c.args.own.now) c.in-Some.fields.now.entries (view c.args.value.now) (sym c.in-Some.ensures) c.strange_key.ensures.ordered)
