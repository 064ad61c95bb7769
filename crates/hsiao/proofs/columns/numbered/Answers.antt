-- The columns are different: where column i is s, none before it is, so that its number is all that is counted.
use Rattle.std.proofs.Common.{◌≡◌, sym, ap, ◌∙◌, ℕ, ◌+◌, ◌<◌, length, false, get_or, eq-eqb, ne_eqb, arith}
use Rattle.hsiao.specs.Table.{columns}
use Rattle.hsiao.proofs.HsiaoTableLaws.{columns-odd, columns-length}
use Rattle.hsiao.proofs.PlaceLaws.{number_below, number_hit, number_passed}
use Rattle.hsiao.proofs.columns.numbered.Invariants.{hit}
use Rattle.hsiao.proofs.columns.numbered.Goals as goal
use Rattle.hsiao.proofs.columns.numbered.Goals.{then-column-s, else-column-s}

none_before : (s i : ℕ) → i < 64 → get_or columns i 0 ≡ s → (j : ℕ) → j < i → hit s j ≡ false
none_before s i h e j l =
    let k : i < length columns = rw columns-length h in
    let ne : get_or columns j 0 ≡ s → ⊥ = λ z. absurd (omega (arith, columns-odd.different j i (omega arith) k (z ∙ sym e))) in
    ne_eqb (get_or columns j 0) s ne

counted : (s i n : ℕ) → i < 64 → n ≡ number_below (hit s) i → get_or columns i 0 ≡ s
    → (n ≡ 0) × (n + (i + 1) ≡ number_below (hit s) (i + 1))
counted s i n h v e = number_hit _ _ v (none_before s i h e) (eq-eqb _ _ e)

pub loop-i-preserved : goal.loop-i-preserved
loop-i-preserved c =
    let l = c.loop-i in
    let e : get_or c.args.table.now l.i 0 ≡ get_or columns l.i 0 = rw c.requires in
    elim c.if-column-s.branch [
      | then-column-s w ↦ w.n-is ∙ (counted c.args.s l.i l.n (omega arith) l.invariant (sym e ∙ w.if-column-s.true)).1
      | else-column-s w ↦ w.n-is ∙ l.invariant ∙ sym (number_passed _ l.i (ne_eqb _ _ (λ z. w.if-column-s.false (e ∙ z))))
    ]

pub returns : goal.returns
returns c =
    let l = c.loop-i in
    let e : l.i ≡ length columns = omega (arith, columns-length) in
    l.invariant ∙ ap (number_below (hit c.args.s)) e
