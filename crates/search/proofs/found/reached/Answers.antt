-- `reached` meets its contract: a new best is the row order at hand; else the two row orders part where `matched` says.
use Rattle.std.proofs.Common.{◌≡◌, true, false, sym, refl, ◌∙◌, true≢false}
use Rattle.search.specs.Tables.{is_two}
use Rattle.search.proofs.ReachedLaws.{reached-new, reached-copy}
use Rattle.search.proofs.found.reached.Goals as goal

pub returns-then-not-node : goal.returns-then-not-node
returns-then-not-node c =
    let z = c.requires in
    reached-copy z.0 z.1 c.if-not-node.true _ c.matched.ensures

pub returns-then-not-is_two : goal.returns-then-not-is_two
returns-then-not-is_two c =
    let z = c.requires in
    let n : is_two c.args.tables.now.low ≡ false = sym c.is_two.ensures ∙ c.if-not-is_two.true in
    reached-new z.0 z.1 c.if-not-node.false _ refl refl (λ t. absurd (true≢false (sym t ∙ n))) refl (sym n) refl refl c.total.ensures

pub returns-else-not-is_two : goal.returns-else-not-is_two
returns-else-not-is_two c =
    let z = c.requires in
    let t : is_two c.args.tables.now.low ≡ true = sym c.is_two.ensures ∙ c.if-not-is_two.false in
    reached-new z.0 z.1 c.if-not-node.false _ refl refl (λ e. refl) z.0.keys-size (z.0.ready t ∙ sym t) refl refl c.total.ensures
