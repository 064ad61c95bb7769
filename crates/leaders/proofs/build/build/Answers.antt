-- The columns give every syndrome an entry.
use Rattle.std.proofs.Common.{ap₂, ◌∙◌, List, ℕ, suc, take}
use Rattle.coding.specs.Matrix.{encode}
use Rattle.coding.specs.Order.{order, fills, blanks}
use Rattle.coding.specs.Tries.{tried}
use Rattle.parity.proofs.CheckColumnLaws.{columns-below}
use Rattle.leaders.proofs.BuiltLaws.{filled_columns, tried-columns}
use Rattle.leaders.proofs.build.build.Goals as goal

pub fill_list-requires-clause-by_index : goal.fill_list-requires-clause-by_index
fill_list-requires-clause-by_index c =
    rw (c.columns.ensures, c.requires.2) (columns-below c.args.n c.args.checks.now c.args.c)

pub returns-clause-list_after : goal.returns-clause-list_after
returns-clause-list_after c =
    let a = c.args in
    c.fill_list.ensures.list_after ∙ ap₂ (λ (h : List ℕ) (m : ℕ). fills (encode h) (blanks m) (order a.n (suc a.c))) c.columns.ensures c.requires.2
    ∙ filled_columns (take a.c a.checks.now) a.n a.c c.requires.0

pub returns-clause-value : goal.returns-clause-value
returns-clause-value c =
    let a = c.args in
    c.fill_list.ensures.value ∙ ap₂ (λ (h : List ℕ) (m : ℕ). tried (encode h) (blanks m) (order a.n (suc a.c))) c.columns.ensures c.requires.2
    ∙ tried-columns (take a.c a.checks.now) a.n a.c c.requires.0
