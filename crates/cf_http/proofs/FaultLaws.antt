-- Faults of a link.
use Rattle.std.proofs.Common.{◌≡◌, ℕ, Option, Some, None, subst, ◌∙◌}
use Rattle.cf_http.specs.declared.end.LinkEnd.{LinkEnd}
use Rattle.cf_http.specs.declared.end.LinkEnd.TheVariants as end
use Rattle.cf_http.specs.Links.{LinkTells, NoFaults, FaultsIf, Rises}

rises_since : (a b c : ℕ) → b ≡ a → Rises b c → Rises a c
rises_since a b c e r = subst (λ (x : ℕ). Rises x c) e r

-- no call failed before
pub faults_since : (old mid new : LinkTells) (how : Option LinkEnd) → NoFaults old mid → FaultsIf mid new how → FaultsIf old new how
faults_since old mid new None n f = (f.0 ∙ n.0, f.1 ∙ n.1)
faults_since old mid new (Some end.Closed) n f = (f.0 ∙ n.0, f.1 ∙ n.1)
faults_since old mid new (Some end.Cut) n f = (f.0 ∙ n.0, f.1 ∙ n.1)
faults_since old mid new (Some end.ReadFault) n f = (rises_since old.input.faults mid.input.faults new.input.faults n.0 f.0, f.1 ∙ n.1)
faults_since old mid new (Some end.WriteFault) n f = (f.0 ∙ n.0, rises_since old.output.faults mid.output.faults new.output.faults n.1 f.1)
faults_since old mid new (Some end.Limit) n f = (f.0 ∙ n.0, f.1 ∙ n.1)
faults_since old mid new (Some end.NoMemory) n f = (f.0 ∙ n.0, f.1 ∙ n.1)
