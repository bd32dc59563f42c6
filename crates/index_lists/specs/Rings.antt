-- Nodes that name their neighbours.
use Rattle.std.specs.Prelude.{◌≡◌, ℕ, List, [], ◌∷◌, map, reverse, slice_index, slice_set}
use Rattle.index_lists.specs.declared.links.Link.{Link}

-- the node that each names as the one after it
abbrev pub nexts : List Link → List ℕ
nexts links = map (λ link. link.next) links

-- the node that each names as the one before it
abbrev pub prevs : List Link → List ℕ
prevs links = map (λ link. link.prev) links

-- the neighbours of a node name each other instead of it
abbrev pub nexts_without : ℕ → List Link → List ℕ
nexts_without node links =
    slice_set (nexts links) (slice_index (prevs links) node) (slice_index (nexts links) node)

abbrev pub prevs_without : ℕ → List Link → List ℕ
prevs_without node links =
    slice_set (prevs links) (slice_index (nexts links) node) (slice_index (prevs links) node)

-- from one node on each names the following, and the last of them names the end
abbrev pub IsPath : List ℕ → ℕ → List ℕ → ℕ → Type 0
IsPath named from [] to = slice_index named from ≡ to
IsPath named from (node ∷ nodes) to = (slice_index named from ≡ node) × IsPath named node nodes to

-- the first node, or the end where there is none
abbrev pub first_or : ℕ → List ℕ → ℕ
first_or end [] = end
first_or end (node ∷ nodes) = node

-- the last node, or the start where there is none
abbrev pub last_or : ℕ → List ℕ → ℕ
last_or start [] = start
last_or start (node ∷ nodes) = last_or node nodes

-- the nodes and the end close a ring, in either direction
pub record IsRing (named named_back : List ℕ) (end : ℕ) (nodes : List ℕ) : Type 0 where
  pub forwards : IsPath named end nodes end
  pub backwards : IsPath named_back end (reverse nodes) end
