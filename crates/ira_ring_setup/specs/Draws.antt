-- The draws of the nodes of a ring, from the words of a PCG32 generator (O'Neill, PCG: A Family of
-- Simple Fast Space-Efficient Statistically Good Algorithms for Random Number Generation, 2014).
use Rattle.std.specs.Prelude.{ℕ, ◌+◌, ◌%◌, List, map}
use Rattle.rand_core.specs.Steps.{first_words}
use Rattle.rand_pcg.specs.Lcg.{Lcg, started, increment_of}
use Rattle.rand_pcg.specs.Pcg.{multiplier_64, pcg32}

-- the generator of a node: its state is the seed, and its stream the node's place
abbrev pub generator : ℕ → ℕ → Lcg
generator seed place = started 64 multiplier_64 seed (increment_of 64 place)

-- the ID that a word stands for in a ring of n nodes, in 1..=n
abbrev pub id_of_word : ℕ → ℕ → ℕ
id_of_word n word = 1 + word % n

-- the first k draws of a node: the IDs of its generator's first k words
abbrev pub draws : ℕ → ℕ → ℕ → ℕ → List ℕ
draws n seed place k = map (id_of_word n) (first_words pcg32 k (generator seed place))
