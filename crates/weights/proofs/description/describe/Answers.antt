-- What the code gives, and the walk or what it would find.
use Rattle.std.proofs.Common.{◌≡◌, sym, ap, ap₂, ◌∙◌, List, ℕ, ◌-◌, length, take, arith, rules}
use Rattle.std.proofs.Math.Seq.{take_at}
use Rattle.std.specs.Prelude.{Ok, Option, Some, unwrap_or}
use Rattle.coding.specs.Lists.{padded}
use Rattle.coding.specs.Reduce.{reduced_rows}
use Rattle.coding.specs.Check.{checks}
use Rattle.coding.specs.Weight.{dmin, lightest_codeword}
use Rattle.words.specs.Limits.{max_rows, max_checks}
use Rattle.words.specs.Accepted.{matrix_answer, Accepted}
use Rattle.words.proofs.AcceptedLaws.{accepted_in}
use Rattle.words.proofs.CodeLaws.{rows_are}
use Rattle.answers.proofs.AnswerLaws.{ok_answered, answered_ok}
use Rattle.parity.specs.declared.check.Code.{Code}
use Rattle.walk.proofs.WalkedLaws.{counts_are, lightest_is}
use Rattle.walk.specs.declared.walk.Lightest.{Lightest}
use Rattle.weights.specs.declared.weights.Weights.{Weights}
use Rattle.weights.specs.Inner.Overlap.{CodeParts}
use Rattle.weights.proofs.DescribeLaws.{description_lem}
use Rattle.weights.proofs.DualCountLaws.{checks_long}
use Rattle.weights.proofs.description.describe.Goals.{After-walk_code-lightest}
use Rattle.weights.proofs.description.describe.Goals as goal

-- the reduced rows and the check rows of an accepted matrix stand in front of zeros
parts : (n k : ℕ) (rows first second : List ℕ) → Accepted n k rows → first ≡ padded max_rows (reduced_rows n rows) → second ≡ padded max_checks (checks n rows)
    → CodeParts n rows (take k first) (take (n - k) second)
parts n k rows first second A f s =
    let count : length (checks n rows) ≡ n - k = omega (arith, checks_long n k rows A) in
    record {
      k = k;
      accepted = A;
      reduced_are = ap (take k) f ∙ take_at (reduced_rows n rows) _ k (rows_are n k rows A);
      checks_are = ap (take (n - k)) s ∙ take_at (checks n rows) _ (n - k) count;
    }

same_weights : {a b : ℕ} {c d : List ℕ} {e f : ℕ} → a ≡ b → c ≡ d → e ≡ f
    → ◌≡◌ {A = Weights} (record { dmin = a; counts = c; lightest = e }) (record { dmin = b; counts = d; lightest = f })
same_weights p q r = λ i. record { dmin = p i; counts = q i; lightest = r i }

pub walk_code-lightest-requires : goal.walk_code-lightest-requires
walk_code-lightest-requires c =
    let m = c.args.matrix.now in
    let (d, x) = answered_ok (matrix_answer m.n m.k m.rows.now) _ _ (sym c.in_ok-c.was ∙ c.code_of.ensures.is) in
    rw c.check_count.ensures
    (parts m.n m.k m.rows.now _ _ (accepted_in _ _ _ d) (ap (λ (y : Code). y.rows) x) (ap (λ (y : Code). y.checks) x))

-- the walk has found the lightest codeword
found : (c : After-walk_code-lightest) → let m = c.args.matrix.now in
    c.walk_code-lightest.result.lightest ≡ Some (record { weight = dmin m.rows.now; word = lightest_codeword m.n m.rows.now })
found c =
    let m = c.args.matrix.now in
    let (d, x) = answered_ok (matrix_answer m.n m.k m.rows.now) _ _ (sym c.in_ok-c.was ∙ c.code_of.ensures.is) in
    lightest_is m.n m.k m.rows.now (accepted_in _ _ _ d) c.walk_code-lightest.result c.walk_code-lightest.ensures

pub unwrap-lightest-requires : goal.unwrap-lightest-requires
unwrap-lightest-requires c = rw (found (goal.at.unwrap-lightest-requires c).After-walk_code-lightest) (search rules)

pub returns : goal.returns
returns c =
    let m = c.args.matrix.now in
    let (d, x) = answered_ok (matrix_answer m.n m.k m.rows.now) _ _ (sym c.in_ok-c.was ∙ c.code_of.ensures.is) in
    let A = accepted_in m.n m.k m.rows.now d in
    let w = c.walk_code-lightest.result in
    let W = c.walk_code-lightest.ensures in
    let light = ap (λ (o : Option Lightest). unwrap_or o c.unwrap-lightest.result) (sym c.unwrap-lightest.ensures ∙ found (goal.at.returns c).After-walk_code-lightest) in
    let told = same_weights (ap (λ (l : Lightest). l.weight) light) (counts_are m.n m.k m.rows.now A w W) (ap (λ (l : Lightest). l.word) light) in
    description_lem c.code_of.ensures _
    (ap₂ (λ (y : Code) (z : Weights). Ok (record { rows = y.rows; checks = y.checks; weights = z })) x told ∙ ok_answered _ _ d)
