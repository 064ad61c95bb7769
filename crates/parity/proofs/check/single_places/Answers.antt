-- Each entry is the single place that the closure gives.
use Rattle.std.proofs.Common.{◌≡◌, ◌∙◌, ℕ, ◌*◌, ◌%◌, ◌^◌, ◌<◌, get_or, rules}
use Rattle.std.proofs.lemmas.List.FromFn.{fill_by_all}
use Rattle.coding.proofs.MachineLaws.{shl_one}
use Rattle.parity.proofs.check.single_places.Goals as goal

pub returns : goal.returns
returns c =
    let given = c.from_fn.ensures.items in
    let each : (k : ℕ) → k < 32 → get_or c.from_fn.result k 0 ≡ 2 ^ k
    = λ k h. let called = given.at k 0 h in
    let e : get_or c.from_fn.result k 0 ≡ (1 * 2 ^ k) % 2 ^ 32 = search rules in
    e ∙ shl_one k 32 h in
    fill_by_all (λ p. 2 ^ p) c.from_fn.result 32 0 given.long each
