use mathlib.Core.Path.{sym, ap₂, ◌∙◌}
use Prim.Native.Nat.{ℕ}
use Rattle.refusal.specs.Order.{in_order}
use Rattle.heaptree.specs.declared.HeapTree.{HeapTree}
use Rattle.heaptree.specs.Root.{root_rules}
use Rattle.property.proofs.ContextLaws.{wrong_kind, right_kind}
use Rattle.property.proofs.check_context.Goals as goal

pub returns-then-client_kind-ne188 : goal.returns-then-client_kind-ne188
returns-then-client_kind-ne188 c = c.refused_at.ensures ∙ sym (wrong_kind _ (λ e. c.if-client_kind-ne188.true (c.client_kind.ensures ∙ e)))

pub returns : goal.returns
returns c =
    let block = c.args.block.now in
    c.check_root.ensures
    ∙ ap₂ (λ (tree : HeapTree) (root : ℕ). in_order (root_rules tree block root)) c.properties.ensures c.user_root.ensures
    ∙ sym (right_kind block (sym c.client_kind.ensures ∙ c.if-client_kind-ne188.false))
