use Rattle.std.proofs.Common.{◌≡◌, [], ◌∷◌, ◌++◌, ◌+◌, ◌-◌, ◌≤◌, ℕ, List, Some, map, refl, take, drop, length, arith, sym, ◌∙◌, ap, subst, length-drop, length-take}
use Rattle.cf_base.proofs.Common.{common_steps, take-append-drop, take-take, drop-take, length-take-le, take_all, take-append_seam, All-cons, All-nil}
use Rattle.cf_http.specs.Links.{LinkRead, read_at}
use Rattle.cf_http_links.specs.Memory.{read_by, received_of, sent_of}
use Rattle.cf_http_links.specs.declared.memory.Passed.{Passed}
use Rattle.cf_http_links.proofs.ReadLaws.{reads_add}
use Rattle.cf_http_links.proofs.memory.MemLinkLink.read.Goals as goal

-- so many bytes more
take_on : (p n : ℕ) (bytes : List ℕ) → take (p + n) bytes ≡ take p bytes ++ take n (drop p bytes)
take_on p n bytes =
    sym (take-append-drop p (take (p + n) bytes))
    ∙ ap (λ t. t ++ drop p (take (p + n) bytes)) (take-take p (p + n) bytes (omega arith))
    ∙ ap (λ t. take p bytes ++ t) (drop-take p n bytes)

front : (rest tail : List ℕ) (n : ℕ) → n ≤ length rest → take n (take n rest ++ tail) ≡ take n rest
front rest tail n le = let e : length (take n rest) ≡ n = length-take-le n rest le in subst (λ (k : ℕ). take k (take n rest ++ tail) ≡ take n rest) e (take-append_seam (take n rest) tail)

given : (bytes copied rest tail : List ℕ) (p n : ℕ) → rest ≡ drop p bytes → copied ≡ take n rest → n ≤ length rest → take (p + n) bytes ≡ take p bytes ++ take n (copied ++ tail)
given bytes copied rest tail p n r c le =
    take_on p n bytes ∙ ap (λ t. take p bytes ++ t) (ap (take n) (sym r) ∙ sym (front rest tail n le) ∙ ap (λ t. take n (t ++ tail)) (sym c))

pub returns-clause-reads : goal.returns-clause-reads
returns-clause-reads c =
    let l = c.args.self.now in
    let rest = take (length c.deref.result.now - l.place) (drop l.place c.deref.result.now) in
    record {
      bytes = given l.bytes.items c.copy_from_slice.new.self rest (drop c.min-count.result c.args.buf.now) l.place c.min-count.result
          (rw c.deref.ensures.value (take_all (length l.bytes.items - l.place) (drop l.place l.bytes.items) (let e = length-drop l.place l.bytes.items in omega (arith, e))))
          c.copy_from_slice.ensures.after
          (let a = length-take (length c.deref.result.now - l.place) (drop l.place c.deref.result.now) in let e = length-drop l.place c.deref.result.now in omega (arith, a, e, c.min-count.ensures));
      end = grind (arith, common_steps);
      reads = grind (arith, common_steps);
      faults = refl;
      stays = refl;
    }

abbrev passed_at : ℕ → ℕ → Passed
passed_at came sent = record { came = came; sent = sent }

pub returns-then-number-self-clause-reads : goal.returns-then-number-self-clause-reads
returns-then-number-self-clause-reads c =
    let l = c.args.self.now in
    let read = read_at (Some (received_of l)) (Some (sent_of l)) in
    record {
      bytes = refl;
      end = refl;
      reads = (
        read ∷ [],
        ap (map (read_by l.bytes.items l.sent.items)) (c.in-Ok.ensures.items ∙ ap (λ (n : ℕ). l.reads.items ++ passed_at l.place n ∷ []) (ap length c.sent.ensures))
            ∙ reads_add l.bytes.items l.sent.items l.place l.reads.items,
        All-cons (λ (r : LinkRead). r ≡ read) read [] refl (All-nil (λ (r : LinkRead). r ≡ read)),
      );
      faults = record { later = c.fault-then-number-self.ensures.later; rose = c.fault-then-number-self.ensures.rose };
      stays = refl;
    }
