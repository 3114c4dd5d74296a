-- The definitions, computed on octets that are known from elsewhere.
use Rattle.std.proofs.Common.{◌≡◌, pos, negsuc, [], ◌∷◌, refl, Ok, Err, Some, None}
use Rattle.der.specs.Node.{Node, primitive, constructed, no_nodes, node, encoding, length_octets, levels, components_of}
use Rattle.der.specs.{Node.contents_of, Node.first_of, Node.take_under, Number.number_content, Number.twos_value}
use Rattle.der.specs.ObjectIdentifier.{oid_content, oid_text, subidentifier_octets, decimal}
use Rattle.der.specs.FirstFault.{tree_of, node_at, node_of, nodes_with, element_at, identifier_at, length_at}
use Rattle.der.specs.FirstFault.{contents_at, long_length, is_length_of}
use Rattle.der.specs.declared.fault.DerFault.TheVariants.{Truncated, LengthForm, HighTag, Trailing}

-- 201 is 81 C9 (X.690 8.1.3.5's example)
length_of_201 : length_octets 201 ≡ 129 ∷ 201 ∷ []
unfolding length_octets
length_of_201 = refl

length_of_127 : length_octets 127 ≡ 127 ∷ []
unfolding length_octets
length_of_127 = refl

length_of_65536 : length_octets 65536 ≡ 131 ∷ 1 ∷ 0 ∷ 0 ∷ []
unfolding length_octets
length_of_65536 = refl

-- a SEQUENCE of the INTEGER 1 and the BOOLEAN TRUE
abbrev sample : Node
sample = constructed 48 (node (primitive 2 (1 ∷ [])) (node (primitive 1 (255 ∷ [])) no_nodes))

sample_encoding : encoding sample ≡ 48 ∷ 6 ∷ 2 ∷ 1 ∷ 1 ∷ 1 ∷ 1 ∷ 255 ∷ []
unfolding length_octets
sample_encoding = refl

sample_read : tree_of (48 ∷ 6 ∷ 2 ∷ 1 ∷ 1 ∷ 1 ∷ 1 ∷ 255 ∷ []) ≡ Ok sample
unfolding tree_of node_at node_of nodes_with element_at identifier_at length_at contents_at long_length
sample_read = refl

sample_is_two_levels : levels sample ≡ 2
sample_is_two_levels = refl

-- its components, under its own tag alone; then the first of them, and the first one where it is an INTEGER
sample_components : components_of 48 sample
    ≡ Some (node (primitive 2 (1 ∷ [])) (node (primitive 1 (255 ∷ [])) no_nodes))
sample_components = refl

sample_is_no_set : components_of 49 sample ≡ None
sample_is_no_set = refl

sample_first : first_of (node (primitive 2 (1 ∷ [])) no_nodes) ≡ Some (primitive 2 (1 ∷ []), no_nodes)
sample_first = refl

number_taken : take_under 2 (node (primitive 2 (1 ∷ [])) no_nodes) ≡ (Some (primitive 2 (1 ∷ [])), no_nodes)
number_taken = refl

truth_left : take_under 2 (node (primitive 1 (255 ∷ [])) no_nodes) ≡ (None, node (primitive 1 (255 ∷ [])) no_nodes)
truth_left = refl

number_contents : contents_of 2 (primitive 2 (1 ∷ [])) ≡ Some (1 ∷ [])
number_contents = refl

number_is_no_truth : contents_of 1 (primitive 2 (1 ∷ [])) ≡ None
number_is_no_truth = refl

-- 81 03 is not the shortest form, 1F begins a high tag number, a SEQUENCE of 2 octets has 3 after it
long_form : tree_of (4 ∷ 129 ∷ 3 ∷ 1 ∷ 2 ∷ 3 ∷ []) ≡ Err LengthForm
unfolding tree_of node_at node_of nodes_with element_at identifier_at length_at contents_at long_length is_length_of
    length_octets
long_form = refl

high_tag : tree_of (48 ∷ 2 ∷ 31 ∷ 0 ∷ []) ≡ Err HighTag
unfolding tree_of node_at node_of nodes_with element_at identifier_at length_at contents_at long_length
high_tag = refl

trailing : tree_of (5 ∷ 0 ∷ 5 ∷ []) ≡ Err Trailing
unfolding tree_of node_at node_of nodes_with element_at identifier_at length_at contents_at long_length
trailing = refl

short : tree_of (48 ∷ 2 ∷ 4 ∷ 1 ∷ []) ≡ Err Truncated
unfolding tree_of node_at node_of nodes_with element_at identifier_at length_at contents_at long_length
short = refl

-- 128 is 00 80, -128 is 80, -129 is FF 7F
content_of_0 : number_content (pos 0) ≡ 0 ∷ []
unfolding number_content
content_of_0 = refl

content_of_128 : number_content (pos 128) ≡ 0 ∷ 128 ∷ []
unfolding number_content
content_of_128 = refl

content_of_minus_1 : number_content (negsuc 0) ≡ 255 ∷ []
unfolding number_content
content_of_minus_1 = refl

content_of_minus_128 : number_content (negsuc 127) ≡ 128 ∷ []
unfolding number_content
content_of_minus_128 = refl

content_of_minus_129 : number_content (negsuc 128) ≡ 255 ∷ 127 ∷ []
unfolding number_content
content_of_minus_129 = refl

value_of_ff7f : twos_value (255 ∷ 127 ∷ []) ≡ negsuc 128
value_of_ff7f = refl

-- 2.999 is 88 37, and 1.2.840.113549 is 2A 86 48 86 F7 0D
content_of_2_999 : oid_content (1079 ∷ []) ≡ 136 ∷ 55 ∷ []
unfolding subidentifier_octets
content_of_2_999 = refl

content_of_rsa : oid_content (42 ∷ 840 ∷ 113549 ∷ []) ≡ 42 ∷ 134 ∷ 72 ∷ 134 ∷ 247 ∷ 13 ∷ []
unfolding subidentifier_octets
content_of_rsa = refl

text_of_2_999 : oid_text (1079 ∷ []) ≡ 50 ∷ 46 ∷ 57 ∷ 57 ∷ 57 ∷ []
unfolding decimal
text_of_2_999 = refl

text_of_1_2_840 : oid_text (42 ∷ 840 ∷ []) ≡ 49 ∷ 46 ∷ 50 ∷ 46 ∷ 56 ∷ 52 ∷ 48 ∷ []
unfolding decimal
text_of_1_2_840 = refl
