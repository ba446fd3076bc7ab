-- The struct that the C face answers for each case of an answer: refusal is document 01's number, 0 where answered; fields that a case does not use are 0. Assumes nothing: these are definitions.
use Rattle.std.specs.Prelude.{ℕ, List, get_or, Option, Some, None, Result, Ok, Err}
use Rattle.refusal.specs.Number.{number}
use Rattle.nodelist.specs.Places.{node_words}
use Rattle.property.specs.declared.Property.TheVariants as property
use Rattle.rkw.specs.declared.RkwVerdict.{RkwVerdict}
use Rattle.rkw.specs.declared.RkwHeader.{RkwHeader}
use Rattle.rkw.specs.declared.RkwNode.{RkwNode}
use Rattle.rkw.specs.declared.RkwBlock.{RkwBlock}
use Rattle.rkw.specs.declared.RkwSize.{RkwSize}
use Rattle.rkw.specs.declared.RkwLength.{RkwLength}
use Rattle.rkw.specs.declared.RkwData.{RkwData}
use Rattle.rkw.specs.declared.RkwItem.{RkwItem}
use Rattle.rkw.specs.declared.RkwProperty.{RkwProperty}
use Rattle.refusal.specs.Order.{Verdict}
use Rattle.refusal.specs.declared.Refusal.{Refusal}
use Rattle.header.specs.declared.Header.{Header}
use Rattle.tree.specs.declared.Found.{Found}
use Rattle.tree.specs.declared.Node.{Node}
use Rattle.tree.specs.declared.Listed.{Listed}
use Rattle.heap.specs.declared.Span.{Span}
use Rattle.property.specs.declared.Property.{Property}
use Rattle.tree.specs.declared.Found.TheVariants.{Absent, Entry}

unfoldable pub verdict_answer : Verdict → RkwVerdict
verdict_answer (Ok tt) = record { refusal = 0; place = 0; more = 0 }
verdict_answer (Err r) = record { refusal = number r.fault; place = r.place; more = r.more }

unfoldable pub header_answer : Result Header Refusal → RkwHeader
header_answer (Ok h) =
    record {
      refusal = 0;
      place = 0;
      more = 0;
      method = h.method;
      nodes_number = h.nodes.number;
      nodes_offset = h.nodes.offset;
      blocks_number = h.blocks.number;
      blocks_offset = h.blocks.offset;
      end = h.end;
      edition = h.edition;
    }
header_answer (Err r) =
    record {
      refusal = number r.fault;
      place = r.place;
      more = r.more;
      method = 0;
      nodes_number = 0;
      nodes_offset = 0;
      blocks_number = 0;
      blocks_offset = 0;
      end = 0;
      edition = 0;
    }

-- no node: absent after so many pages, or refused
abbrev pub no_node : ℕ → ℕ → ℕ → ℕ → RkwNode
no_node refusal place more pages =
    record {
      refusal = refusal;
      place = place;
      more = more;
      found = 0;
      pages = pages;
      node = 0;
      «data» = 0;
      subnode = 0;
      parent = 0;
    }

-- the struct of a place's nine words, in their order
abbrev pub of_words : List ℕ → RkwNode
of_words words =
    record {
      refusal = get_or words 0 0;
      place = get_or words 1 0;
      more = get_or words 2 0;
      found = get_or words 3 0;
      pages = get_or words 4 0;
      node = get_or words 5 0;
      «data» = get_or words 6 0;
      subnode = get_or words 7 0;
      parent = get_or words 8 0;
    }

-- the same words as in a list of nodes
unfoldable pub node_answer : Result (Found Node) Refusal → RkwNode
node_answer answer = of_words (node_words answer)

-- no block: absent after so many pages, or refused
abbrev pub no_block : ℕ → ℕ → ℕ → ℕ → RkwBlock
no_block refusal place more pages =
    record {
      refusal = refusal;
      place = place;
      more = more;
      found = 0;
      pages = pages;
      block = 0;
      offset = 0;
      size = 0;
      references = 0;
    }

unfoldable pub block_answer : Result (Found Listed) Refusal → RkwBlock
block_answer (Ok (Entry b pages)) =
    record {
      refusal = 0;
      place = 0;
      more = 0;
      found = 1;
      pages = pages;
      block = b.block;
      offset = b.offset;
      size = b.size;
      references = b.references;
    }
block_answer (Ok (Absent pages)) = no_block 0 0 0 pages
block_answer (Err r) = no_block (number r.fault) r.place r.more 0

-- of the block test
unfoldable pub size_answer : Result ℕ Refusal → RkwSize
size_answer (Ok n) = record { refusal = 0; place = 0; more = 0; size = n }
size_answer (Err r) = record { refusal = number r.fault; place = r.place; more = r.more; size = 0 }

-- of the block read
unfoldable pub length_answer : Result ℕ Refusal → RkwLength
length_answer (Ok n) = record { refusal = 0; place = 0; more = 0; length = n }
length_answer (Err r) = record { refusal = number r.fault; place = r.place; more = r.more; length = 0 }

-- of the node read
unfoldable pub data_answer : Result (Option ℕ) Refusal → RkwData
data_answer (Ok (Some n)) = record { refusal = 0; place = 0; more = 0; found = 1; length = n }
data_answer (Ok None) = record { refusal = 0; place = 0; more = 0; found = 0; length = 0 }
data_answer (Err r) = record { refusal = number r.fault; place = r.place; more = r.more; found = 0; length = 0 }

unfoldable pub item_answer : Result Span Refusal → RkwItem
item_answer (Ok item) = record { refusal = 0; place = 0; more = 0; start = item.start; length = item.length }
item_answer (Err r) = record { refusal = number r.fault; place = r.place; more = r.more; start = 0; length = 0 }

-- a property that is there: its type, the kind of its value, and the value
abbrev pub valued_of : ℕ → ℕ → ℕ → RkwProperty
valued_of type kind value = record { refusal = 0; place = 0; more = 0; found = 1; code = type; kind = kind; value = value }

-- none: absent, or refused
abbrev pub no_property : ℕ → ℕ → ℕ → RkwProperty
no_property refusal place more =
    record { refusal = refusal; place = place; more = more; found = 0; code = 0; kind = 0; value = 0 }

unfoldable pub property_answer : Result (Option Property) Refusal → RkwProperty
property_answer (Ok (Some (property.Number type value))) = valued_of type 0 value
property_answer (Ok (Some (property.Empty type))) = valued_of type 1 0
property_answer (Ok (Some (property.Item type item))) = valued_of type 2 item
property_answer (Ok (Some (property.Subnode type subnode))) = valued_of type 3 subnode
property_answer (Ok None) = no_property 0 0 0
property_answer (Err r) = no_property (number r.fault) r.place r.more
