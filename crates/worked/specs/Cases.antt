-- The starred cases of document 01 and those that document 02, Req 01 and Req 03, gives: the small net N5 under several
-- bounds, and with a row repeated; what is asked of it, and the answers. Then, for Req 05, a net of its shape in
-- version 2; and for Req 08 the smallest net with a run, where in the exact mode a larger B loses it.
use Rattle.pair.specs.Pair.{found}
use Rattle.paging.specs.Paging.{listed}
use Rattle.std.specs.Prelude.{ℕ, List, [], ◌∷◌, ◌++◌, pos, negsuc, Ok}
use Rattle.accept.specs.Accept.{accept_refusal}
use Rattle.changes.specs.Change.{change_refusal}
use Rattle.heaviest.specs.Heaviest.{heaviest_refusal, between}
use Rattle.worked.specs.Case.{Case, accept, heaviest, exact, listing, heads, leaves, pair, claim}

-- a table: R T N, version 1, 5 nodes, reserved, bound B (below 256); then the rows
-- (0,1) 4, 5; (a,b) 3, 2; (1,3) 6, 7; (3,4) 2, −3
unfoldable pub net5 : ℕ → ℕ → ℕ → List ℕ
net5 a b bound =
    (82 ∷ 84 ∷ 78 ∷ 1 ∷ 0 ∷ 5 ∷ 0 ∷ 0 ∷ bound ∷ 0 ∷ 0 ∷ 0 ∷ [])
    ++ (0 ∷ 0 ∷ 1 ∷ 0 ∷ 4 ∷ 0 ∷ 0 ∷ 0 ∷ 5 ∷ 0 ∷ 0 ∷ 0 ∷ [])
    ++ (a ∷ 0 ∷ b ∷ 0 ∷ 3 ∷ 0 ∷ 0 ∷ 0 ∷ 2 ∷ 0 ∷ 0 ∷ 0 ∷ [])
    ++ (1 ∷ 0 ∷ 3 ∷ 0 ∷ 6 ∷ 0 ∷ 0 ∷ 0 ∷ 7 ∷ 0 ∷ 0 ∷ 0 ∷ [])
    ++ (3 ∷ 0 ∷ 4 ∷ 0 ∷ 2 ∷ 0 ∷ 0 ∷ 0 ∷ 253 ∷ 255 ∷ 255 ∷ 255 ∷ [])

-- N5: the second row is (1,2)
unfoldable pub n5 : ℕ → List ℕ
n5 = net5 1 2

-- a net of its shape in version 2: 5, 2 and 7 cells of kind 0, which scores 1, and one of kind 32, blocked ground,
-- which scores −50
unfoldable pub cells5 : ℕ → List ℕ
cells5 bound =
    (82 ∷ 84 ∷ 78 ∷ 2 ∷ 0 ∷ 5 ∷ 0 ∷ 0 ∷ bound ∷ 0 ∷ 0 ∷ 0 ∷ [])
    ++ (0 ∷ 0 ∷ 1 ∷ 0 ∷ 4 ∷ 0 ∷ 0 ∷ 0 ∷ 0 ∷ 0 ∷ 5 ∷ 0 ∷ [])
    ++ (1 ∷ 0 ∷ 2 ∷ 0 ∷ 3 ∷ 0 ∷ 0 ∷ 0 ∷ 0 ∷ 0 ∷ 2 ∷ 0 ∷ [])
    ++ (1 ∷ 0 ∷ 3 ∷ 0 ∷ 6 ∷ 0 ∷ 0 ∷ 0 ∷ 0 ∷ 0 ∷ 7 ∷ 0 ∷ [])
    ++ (3 ∷ 0 ∷ 4 ∷ 0 ∷ 2 ∷ 0 ∷ 0 ∷ 0 ∷ 32 ∷ 0 ∷ 1 ∷ 0 ∷ [])

-- two nodes: the row (0,1) 0, 0
unfoldable pub net2 : ℕ → List ℕ
net2 bound =
    (82 ∷ 84 ∷ 78 ∷ 1 ∷ 0 ∷ 2 ∷ 0 ∷ 0 ∷ bound ∷ 0 ∷ 0 ∷ 0 ∷ [])
    ++ (0 ∷ 0 ∷ 1 ∷ 0 ∷ 0 ∷ 0 ∷ 0 ∷ 0 ∷ 0 ∷ 0 ∷ 0 ∷ 0 ∷ [])

unfoldable pub unmarked : List ℕ
unmarked = 0 ∷ 0 ∷ 0 ∷ 0 ∷ []

-- run 7 holds the branches of the path 2–3
unfoldable pub held : List ℕ
held = 0 ∷ 7 ∷ 7 ∷ 0 ∷ []

-- both branches of the path 0–3 are marked
unfoldable pub marked : List ℕ
marked = 7 ∷ 0 ∷ 7 ∷ 0 ∷ []

-- run 5 holds the branch 3–4, whose own weight is −3
unfoldable pub crossed : List ℕ
crossed = 0 ∷ 0 ∷ 0 ∷ 5 ∷ []

-- lent memory before a call: any bytes
unfoldable pub lent : List ℕ
lent = 1 ∷ 2 ∷ 3 ∷ 4 ∷ 5 ∷ 6 ∷ 7 ∷ 8 ∷ 9 ∷ 10 ∷ 11 ∷ 12 ∷ 13 ∷ 14 ∷ 15 ∷ 16 ∷ []

-- the rows 0–2 (7, 7), 1–3 (6, 7) and 2–3 (9, 9) of a page, 16 bytes each
unfoldable pub three : List ℕ
three =
    (0 ∷ 0 ∷ 2 ∷ 0 ∷ 7 ∷ 0 ∷ 0 ∷ 0 ∷ 7 ∷ 0 ∷ 0 ∷ 0 ∷ 0 ∷ 0 ∷ 0 ∷ 0 ∷ [])
    ++ (1 ∷ 0 ∷ 3 ∷ 0 ∷ 6 ∷ 0 ∷ 0 ∷ 0 ∷ 7 ∷ 0 ∷ 0 ∷ 0 ∷ 0 ∷ 0 ∷ 0 ∷ 0 ∷ [])
    ++ (2 ∷ 0 ∷ 3 ∷ 0 ∷ 9 ∷ 0 ∷ 0 ∷ 0 ∷ 9 ∷ 0 ∷ 0 ∷ 0 ∷ 0 ∷ 0 ∷ 0 ∷ 0 ∷ [])

unfoldable pub cases : List Case
cases =
    heaviest (n5 9) unmarked (between 2 3 9 (pos 9))
    ∷ heaviest (n5 8) unmarked (between 1 3 6 (pos 7))
    ∷ heaviest (n5 10) unmarked (between 0 3 10 (pos 12))
    ∷ heaviest (n5 2) unmarked (between 3 4 2 (negsuc 2))
    ∷ heaviest (n5 1) unmarked (heaviest_refusal 16 0 0)
    ∷ listing (n5 9) unmarked (pos 7) 0 0 (lent ++ lent ++ lent ++ lent)
    (listed 3 0, three ++ lent)
    ∷ listing (n5 9) unmarked (pos 10) 0 0 lent (listed 0 0, lent)
    ∷ heads (n5 9) (9 ∷ 9 ∷ 9 ∷ 9 ∷ 9 ∷ []) (Ok tt, 0 ∷ 0 ∷ 0 ∷ 3 ∷ 3 ∷ [])
    ∷ leaves (n5 9) (2 ∷ 4 ∷ [])
    ∷ pair (n5 9) unmarked 2 4 (found 11 (pos 6) 2)
    ∷ claim (n5 9) unmarked 7 2 3 (Ok 2, held)
    ∷ heaviest (n5 9) held (between 0 1 4 (pos 5))
    ∷ claim (n5 9) held 8 1 3 (change_refusal held 19 0 0)
    ∷ claim (n5 9) unmarked 7 0 3 (change_refusal unmarked 18 0 0)
    ∷ claim (n5 9) marked 7 0 3 (change_refusal marked 18 0 0)
    ∷ heaviest (n5 2) crossed (between 3 4 2 (negsuc 2))
    ∷ accept (net5 0 1 8) (accept_refusal 11 1 2)
    ∷ heaviest (cells5 9) unmarked (between 2 3 9 (pos 9))
    ∷ heaviest (cells5 2) unmarked (between 3 4 2 (negsuc 49))
    ∷ pair (cells5 9) unmarked 2 4 (found 11 (negsuc 40) 2)
    ∷ exact (net2 0) (0 ∷ []) (between 0 1 0 (pos 0))
    ∷ exact (net2 1) (0 ∷ []) (heaviest_refusal 21 0 0)
    ∷ []
