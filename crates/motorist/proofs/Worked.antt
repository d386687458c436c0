-- The proved set, computed: the plans B1 to B13 and the key pack, figures 6 and 11 of document 003, and what no general law pins: all on whole blocks.
-- Only lengths matter to a plan, so keys, nonces, texts and metadata are sevens, and the permutation changes nothing.
use Rattle.std.specs.Prelude.{◌≡◌, refl, true, false, [], ◌∷◌, ◌++◌, map, get_or, take, drop, replicate}
use Rattle.std.proofs.Math.Seq.{slice}
use Rattle.motorist.specs.Instance.{state_length, text_rate, full_rate, chain_length, pack_length, lake, sea, ocean, lunar}
use Rattle.motorist.specs.Piston.{block, eom_of, crypt_end_of}
use Rattle.motorist.specs.Engine.{Ride, round, plan, inject_collective}
use Rattle.motorist.specs.Motorist.{start, message, wrap, unwrap}
use Rattle.motorist.specs.Session.{session_blocks}
use Rattle.motorist.specs.Examples.{still, starting, sevens, start_plan, message_plan, rows, ones_and_twos}

-- the two sides of each row are equal
pub as_stated : map (λ r. r.0) rows ≡ map (λ r. r.1) rows
unfolding rows start_plan message_plan
as_stated = refl

-- ---- where the four slips would show
-- a message of one byte after another: its text starts behind the tag of the one before, at 16
pub second_text : map (map (crypt_end_of lake)) (drop 1 (session_blocks lake still (starting 0 false false) (sevens 1 0 ∷ sevens 1 0 ∷ [])))
    ≡ (1 ∷ []) ∷ (17 ∷ []) ∷ []
unfolding start_plan message plan round
second_text = refl

-- 255 where no tag is taken, as in B3
pub no_tag : map (map (eom_of lake)) (session_blocks lake still (starting 0 false false) []) ≡ (255 ∷ []) ∷ []
unfolding start_plan
no_tag = refl

-- three zeros under a state of ones: the ciphertext is ones, and the block holds the zeros; unwrapping the ones gives the zeros, in the same block
pub plaintext_in_block : map (λ (r : Ride). r.output ∷ map (slice 16 20) (get_or r.blocks 0 []))
    (wrap lake still (replicate 200 1 ∷ []) 16 (record { text = replicate 3 0; meta = []; forgets = false }) ∷ unwrap lake still (replicate 200 1 ∷ []) 16 (record { text = replicate 3 1; meta = []; forgets = false }) ∷ [])
    ≡ (replicate 3 1 ∷ replicate 4 0 ∷ []) ∷ (replicate 3 0 ∷ replicate 4 0 ∷ []) ∷ []
unfolding message plan round block state_length text_rate full_rate
plaintext_in_block = refl

-- one byte of text and one of metadata: the metadata stands at the text rate, with zeros before it
pub metadata_at_rate : map (slice 16 170) (get_or (wrap lake still (replicate 200 0 ∷ []) 16 (record { text = 9 ∷ []; meta = 5 ∷ []; forgets = false })).blocks 0 [])
    ≡ (9 ∷ replicate 151 0 ++ (5 ∷ 0 ∷ [])) ∷ []
unfolding message plan round block state_length text_rate full_rate
metadata_at_rate = refl

-- ---- several Pistons
-- figure 6: a start of four Pistons, with the tag from the first
pub figure_6 : start_plan ocean (starting 0 true false)
    ≡ ((0 ∷ 0 ∷ 42 ∷ 16 ∷ []) ∷ (0 ∷ 0 ∷ 42 ∷ 255 ∷ []) ∷ (0 ∷ 0 ∷ 42 ∷ 255 ∷ []) ∷ (0 ∷ 0 ∷ 42 ∷ 255 ∷ []) ∷ []) ∷ []
unfolding start_plan
figure_6 = refl

-- figure 11: a message of four Pistons, with |P₅| = 100 and |A₆| = 5
pub figure_11 : message_plan ocean true 924 149 false
    ≡ ((168 ∷ 168 ∷ 192 ∷ 0 ∷ []) ∷ (168 ∷ 168 ∷ 192 ∷ 0 ∷ []) ∷ (168 ∷ 168 ∷ 192 ∷ 0 ∷ []) ∷ (168 ∷ 168 ∷ 192 ∷ 0 ∷ []) ∷ [])
    ∷ ((168 ∷ 168 ∷ 192 ∷ 32 ∷ []) ∷ (100 ∷ 168 ∷ 192 ∷ 32 ∷ []) ∷ (0 ∷ 168 ∷ 173 ∷ 32 ∷ []) ∷ (0 ∷ 168 ∷ 168 ∷ 32 ∷ []) ∷ [])
    ∷ ((0 ∷ 0 ∷ 128 ∷ 16 ∷ []) ∷ (0 ∷ 0 ∷ 128 ∷ 255 ∷ []) ∷ (0 ∷ 0 ∷ 128 ∷ 255 ∷ []) ∷ (0 ∷ 0 ∷ 128 ∷ 255 ∷ []) ∷ [])
    ∷ []
unfolding message_plan
figure_11 = refl

-- the knot of eight Pistons has two blocks
pub knot_of_eight : message_plan lunar true 0 0 false
    ≡ replicate 8 (0 ∷ 0 ∷ 0 ∷ 32 ∷ [])
    ∷ replicate 8 (0 ∷ 0 ∷ 192 ∷ 0 ∷ [])
    ∷ ((0 ∷ 0 ∷ 64 ∷ 16 ∷ []) ∷ replicate 7 (0 ∷ 0 ∷ 64 ∷ 255 ∷ []))
    ∷ []
unfolding message_plan
knot_of_eight = refl

-- the second Piston's text starts at 0, also behind a tag
pub second_starts : message_plan sea true 157 0 false
    ≡ ((168 ∷ 168 ∷ 168 ∷ 32 ∷ []) ∷ (5 ∷ 168 ∷ 168 ∷ 32 ∷ []) ∷ [])
    ∷ ((0 ∷ 0 ∷ 64 ∷ 16 ∷ []) ∷ (0 ∷ 0 ∷ 64 ∷ 255 ∷ []) ∷ [])
    ∷ []
unfolding message_plan
second_starts = refl

-- behind the nonce stand the number of Pistons and each one's index
pub indices : map (slice 40 42) (get_or (start ocean still (starting 0 true false)).blocks 0 [])
    ≡ (4 ∷ 0 ∷ []) ∷ (4 ∷ 1 ∷ []) ∷ (4 ∷ 2 ∷ []) ∷ (4 ∷ 3 ∷ []) ∷ []
unfolding start inject_collective block state_length full_rate pack_length
indices = refl

-- the chaining values go into every Piston, the first Piston's first
pub chained : map (take 65) (get_or (wrap sea still ones_and_twos 16 (record { text = []; meta = []; forgets = false })).blocks 1 [])
    ≡ replicate 2 (replicate 32 1 ++ replicate 32 2 ++ (0 ∷ []))
unfolding message inject_collective plan round block state_length text_rate full_rate chain_length
chained = refl

-- the ciphertext comes in the order in which the text was dealt
pub dealt : (wrap sea still ones_and_twos 16 (record { text = replicate 157 0; meta = []; forgets = false })).output
    ≡ replicate 152 1 ++ replicate 5 2
unfolding message inject_collective plan round block state_length text_rate full_rate chain_length
dealt = refl
