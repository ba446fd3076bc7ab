-- Numbers that differ only in a reserved bit 0 are answered alike. Assumes nothing.
use Prim.Native.Nat.{ℕ}
use mathlib.Core.Path.{ap}
use mathlib.Core.List.{◌++◌, map}
use Rattle.refusal.specs.Order.{after}
use Rattle.keys.specs.declared.Sought.TheVariants.{Equal}
use Rattle.search.specs.Answer.{refused}
use Rattle.search.specs.Descent.{descend, rules_read, path_under}
use Rattle.header.specs.Header.{header_rules, header_fits}
use Rattle.page.proofs.PageLaws.{compared_alike}
use Rattle.tree.specs.Tree.{root, root_level, page_tree}
use Rattle.tree.specs.Lookup.{searched, path, search_rules}
use Rattle.tree.specs.Demand3.{BitZeroUnreadHolds}

pub bit_zero_unread : BitZeroUnreadHolds
unfolding searched path search_rules
bit_zero_unread L image one other fair reserved same =
    let alike = compared_alike L one other fair reserved same in
    record {
      answers = ap (λ (k : ℕ). after refused (header_fits image) (descend (page_tree L image) Equal k (root_level L image) (root L image))) alike;
      paths = ap (λ (k : ℕ). map (λ p. p.offset) (path_under (page_tree L image) k (root_level L image) (root L image))) alike;
      rules = ap (λ (k : ℕ). header_rules image ++ rules_read (page_tree L image) Equal k (root_level L image) (root L image)) alike;
    }
