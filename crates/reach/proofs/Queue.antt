-- The queue: reaching the nodes next to the one at its head, half-branch by half-branch.
use Prim.Native.Nat.{ℕ, ◌+◌, ◌-◌, ◌*◌, ◌≤◌, ◌<◌}
use mathlib.Core.Path.{◌≡◌, sym, ap, ◌∙◌}
use mathlib.Core.Logic.{◌≢◌}
use mathlib.Core.List.{List}
use native.Mathlib.Omega.{arith}
use native.Mathlib.Decide.{ℕ_discrete, dec_le}
use lib.ListN.{set, length-set}
use lib.Seq.{get_or-set_same, get_or-set_other}
use Rattle.arrays.specs.At.{at}
use Rattle.arrays.specs.work.Filled.{Filled}
use Rattle.arrays.specs.Members.{In}
use Rattle.reach.specs.work.Half.{from}
use Rattle.reach.specs.work.Walked.{Reached, High}
use Rattle.net.specs.work.Rows.{RowsFit}
use Rattle.reach.specs.work.Chains.{Last, Chained}
use Rattle.reach.specs.work.Queue.{Queue, Outer}
use Rattle.reach.proofs.Chained.{from_fits, flip_fit}
use Rattle.net.proofs.Counts.{upto, upto_length, upto_in, Without, without}

-- and of the node p at head the half-branches from y on
pub record Inner (start : ℕ) (us vs : ℕ → ℕ) (rows : ℕ) (head p y m : ℕ)
    (parent half order place : List ℕ) : Type 0 where
  pub queue : Queue start us vs rows m parent half order place
  pub in_queue : head < m
  pub here : at order head ≡ p
  pub latest : (i : ℕ) → 0 < i → i < m
      → (High parent order place i ≤ head) × (High parent order place i ≡ head → y ≤ at half (at order i))
  pub done : (i h : ℕ) → i < head → h < 2 * rows → from us vs h ≡ at order i → at parent (from vs us h) ≢ 4096
  pub doing : (h : ℕ) → y ≤ h → h < 2 * rows → from us vs h ≡ p → at parent (from vs us h) ≢ 4096

module _ {start : ℕ} (us vs : ℕ → ℕ) (rows : ℕ) (parent half order place : List ℕ) (head m : ℕ) where
  pub inner_start : (p : ℕ) → p ≡ at order head → head < m → Outer start us vs rows head m parent half order place
      → Inner start us vs rows head p (2 * rows) m parent half order place
  inner_start p e b o = record {
    queue = o.queue;
    in_queue = b;
    here = sym e;
    latest = λ i z k. let t = o.latest i z k in (omega arith, λ f. absurd (omega arith));
    done = o.done;
    doing = λ h l k q. absurd (omega arith);
  }

  module _ (p y : ℕ) (s : Inner start us vs rows head p y m parent half order place) where
    -- no half-branch of p is below y and not below x
    pub inner_skip : (x : ℕ) → Last (from us vs) p y x → Inner start us vs rows head p x m parent half order place
    inner_skip x l = record {
      queue = s.queue;
      in_queue = s.in_queue;
      here = s.here;
      latest = λ i z k. let t = s.latest i z k in (t.0, λ f. omega (arith, t.1 f, l.below));
      done = s.done;
      doing = λ h b k q. pick h b k q (nat_cases h y);
    }
      where
        nat_cases : (h y : ℕ) → Dec (y ≤ h)
        nat_cases h y = dec_le y h

        pick : (h : ℕ) → x ≤ h → h < 2 * rows → from us vs h ≡ p → Dec (y ≤ h) → at parent (from vs us h) ≢ 4096
        pick h b k q (yes t) = s.doing h t k q
        pick h b k q (no n) = absurd (l.none h b (omega arith) q)

    pub inner_keep : (h : ℕ) → y ≡ h + 1 → at parent (from vs us h) ≢ 4096
        → Inner start us vs rows head p h m parent half order place
    inner_keep h e n = record {
      queue = s.queue;
      in_queue = s.in_queue;
      here = s.here;
      latest = λ i z k. let t = s.latest i z k in (t.0, λ f. omega (arith, t.1 f));
      done = s.done;
      doing = λ g b k q. pick g b k q (ℕ_discrete g h);
    }
      where
        pick : (g : ℕ) → h ≤ g → g < 2 * rows → from us vs g ≡ p → Dec (g ≡ h) → at parent (from vs us g) ≢ 4096
        pick g b k q (yes f) = rw f n
        pick g b k q (no f) = s.doing g (omega arith) k q

    pub inner_end : y ≡ 0 → Outer start us vs rows (head + 1) m parent half order place
    inner_end e = record {
      queue = s.queue;
      in_queue = omega (arith, s.in_queue);
      latest = λ i z k. omega (arith, (s.latest i z k).0);
      done = λ i h b k q. pick i h b k q (ℕ_discrete i head);
    }
      where
        pick : (i h : ℕ) → i < head + 1 → h < 2 * rows → from us vs h ≡ at order i → Dec (i ≡ head)
            → at parent (from vs us h) ≢ 4096
        pick i h b k q (yes f) = s.doing h (omega arith) k (q ∙ rw f s.here)
        pick i h b k q (no f) = s.done i h (omega arith) k q

    module _ (h c : ℕ) (e : y ≡ h + 1) (b : h < 2 * rows) (fp : from us vs h ≡ p) (fc : c ≡ from vs us h)
        (cb : c < 4096) (new : at parent c ≡ 4096) where
      abbrev Par : List ℕ
      Par = set parent c p

      abbrev Hal : List ℕ
      Hal = set half c h

      abbrev Ord : List ℕ
      Ord = set order m c

      abbrev Pla : List ℕ
      Pla = set place c m

      Q : Queue start us vs rows m parent half order place
      Q = s.queue

      fewer : Without c Q.free.0
      fewer = without c Q.free.0 (Q.free.2 c cb new)

      pub room : m < 4096
      room = omega (arith, Q.free.1, fewer.1)

      pb : p < 4096
      pb = rw s.here at (Q.within head s.in_queue)

      oo : (i : ℕ) → i < m → at Ord i ≡ at order i
      oo i l = get_or-set_other order m i c 0 (omega arith)

      on : at Ord m ≡ c
      on = get_or-set_same order m c 0 (omega (arith, room, Q.long.2))

      po : (v : ℕ) → v ≢ c → at Par v ≡ at parent v
      po v n = get_or-set_other parent c v p 0 n

      pn : at Par c ≡ p
      pn = get_or-set_same parent c p 0 (omega (arith, Q.long.0))

      ho : (v : ℕ) → v ≢ c → at Hal v ≡ at half v
      ho v n = get_or-set_other half c v h 0 n

      hn : at Hal c ≡ h
      hn = get_or-set_same half c h 0 (omega (arith, Q.long.1))

      ne : (i : ℕ) → i < m → at order i ≢ c
      ne i l q = omega (arith, Q.reached i l, ap (at parent) q, new)

      -- as it was at the places below m
      par_old : (i : ℕ) → i < m → at Par (at Ord i) ≡ at parent (at order i)
      par_old i l = rw (oo i l) (po _ (ne i l))

      hal_old : (i : ℕ) → i < m → at Hal (at Ord i) ≡ at half (at order i)
      hal_old i l = rw (oo i l) (ho _ (ne i l))

      par_new : at Par (at Ord m) ≡ p
      par_new = rw on pn

      hal_new : at Hal (at Ord m) ≡ h
      hal_new = rw on hn

      keeps : (v : ℕ) → at parent v ≢ 4096 → at Par v ≢ 4096
      keeps v n = pick (ℕ_discrete v c)
        where
          pick : Dec (v ≡ c) → at Par v ≢ 4096
          pick (yes q) = λ t. omega (arith, pb, sym pn ∙ (rw q at t))
          pick (no q) = rw (po v q) n

      lo : (v : ℕ) → v ≢ c → at Pla v ≡ at place v
      lo v n = get_or-set_other place c v m 0 n

      ln : at Pla c ≡ m
      ln = get_or-set_same place c m 0 (omega (arith, Q.long.3))

      high_old : (i : ℕ) → 0 < i → i < m → High Par Ord Pla i ≡ High parent order place i
      high_old i z l =
          let t = Q.above i z l in
          rw (par_old i l) (lo _ (λ q. ne (High parent order place i) (omega (arith, t.0)) (t.1 ∙ q)))

      high_new : High Par Ord Pla m ≡ head
      high_new =
          rw (par_new, lo p (λ q. ne head s.in_queue (s.here ∙ q)), sym s.here) (Q.back head s.in_queue)

      pub queue_push : Queue start us vs rows (m + 1) Par Hal Ord Pla
      queue_push =
          record {
            long = (
              length-set parent c p ∙ Q.long.0,
              length-set half c h ∙ Q.long.1,
              length-set order m c ∙ Q.long.2,
              length-set place c m ∙ Q.long.3,
            );
            free = (fewer.0, omega (arith, Q.free.1, fewer.1), λ v l q. pick_free v l q (ℕ_discrete v c));
            some = omega arith;
            root = oo 0 Q.some ∙ Q.root;
            top = (po start old ∙ Q.top.0, ho start old ∙ Q.top.1);
            within = λ i l. pick_within i l (ℕ_discrete i m);
            reached = λ i l. pick_reached i l (ℕ_discrete i m);
            placed = λ v l n. pick_placed v l n (ℕ_discrete v c);
            back = λ i l. pick_back i l (ℕ_discrete i m);
            child = λ i z l. pick_child i z l (ℕ_discrete i m);
            above = λ i z l. pick_above i z l (ℕ_discrete i m);
            falls = λ i j z l k. pick_falls i j z l k (ℕ_discrete j m);
            blank = λ v l q. pick_blank v l q (ℕ_discrete v c);
            rest = λ i l k. get_or-set_other order m i c 0 (omega arith) ∙ Q.rest i (omega arith) k;
          }
        where
          old : start ≢ c
          old q = ne 0 Q.some (Q.root ∙ q)

          pick_free : (v : ℕ) → v < 4096 → at Par v ≡ 4096 → Dec (v ≡ c) → In v fewer.0
          pick_free v l q (yes f) = absurd (omega (arith, pb, sym pn ∙ (rw f at q)))
          pick_free v l q (no f) = fewer.2 v (Q.free.2 v l (sym (po v f) ∙ q)) f

          pick_within : (i : ℕ) → i < m + 1 → Dec (i ≡ m) → at Ord i < 4096
          pick_within i l (yes f) = rw (f, on) cb
          pick_within i l (no f) = let k : i < m = omega arith in rw (oo i k) (Q.within i k)

          pick_reached : (i : ℕ) → i < m + 1 → Dec (i ≡ m) → at Par (at Ord i) < 4096
          pick_reached i l (yes f) = rw (f, par_new) pb
          pick_reached i l (no f) = let k : i < m = omega arith in rw (par_old i k) (Q.reached i k)

          pick_placed : (v : ℕ) → v < 4096 → at Par v ≢ 4096 → Dec (v ≡ c)
              → (at Pla v < m + 1) × (at Ord (at Pla v) ≡ v)
          pick_placed v l n (yes f) = rw (f, ln) (omega arith, on)
          pick_placed v l n (no f) =
              let t = Q.placed v l (rw (po v f) at n) in
              rw (lo v f) (omega (arith, t.0), oo (at place v) t.0 ∙ t.1)

          pick_back : (i : ℕ) → i < m + 1 → Dec (i ≡ m) → at Pla (at Ord i) ≡ i
          pick_back i l (yes f) = rw (f, on) ln
          pick_back i l (no f) = let k : i < m = omega arith in rw (oo i k) (lo _ (ne i k) ∙ Q.back i k)

          pick_child : (i : ℕ) → 0 < i → i < m + 1 → Dec (i ≡ m) → Reached us vs rows Par Hal (at Ord i)
          pick_child i z l (yes f) =
              rw (f, on) (record { fits = rw hn b; leaves = rw (hn, pn) fp; leads = rw hn (sym fc) })
          pick_child i z l (no f) =
              let k : i < m = omega arith in
              let t = Q.child i z k in
              rw (oo i k)
              (record {
                fits = rw (ho _ (ne i k)) t.fits;
                leaves = rw (ho _ (ne i k), po _ (ne i k)) t.leaves;
                leads = rw (ho _ (ne i k)) t.leads;
              })

          pick_above : (i : ℕ) → 0 < i → i < m + 1 → Dec (i ≡ m)
              → (High Par Ord Pla i < i) × (at Ord (High Par Ord Pla i) ≡ at Par (at Ord i))
          pick_above i z l (yes f) = rw (f, high_new, par_new) (s.in_queue, oo head s.in_queue ∙ s.here)
          pick_above i z l (no f) =
              let k : i < m = omega arith in
              let t = Q.above i z k in
              rw (high_old i z k, par_old i k) (t.0, oo _ (omega (arith, t.0)) ∙ t.1)

          pick_falls : (i j : ℕ) → 0 < i → i < j → j < m + 1 → Dec (j ≡ m)
              → (High Par Ord Pla i ≤ High Par Ord Pla j)
              × (High Par Ord Pla i ≡ High Par Ord Pla j → at Hal (at Ord j) < at Hal (at Ord i))
          pick_falls i j z l k (yes f) =
              let li : i < m = omega arith in
              let w = s.latest i z li in
              rw (f, high_new, high_old i z li, hal_new, hal_old i li) (w.0, λ d. omega (arith, w.1 d))
          pick_falls i j z l k (no f) =
              let li : i < m = omega arith in
              let lj : j < m = omega arith in
              rw (high_old i z li, high_old j (omega arith) lj, hal_old i li, hal_old j lj) (Q.falls i j z l lj)

          pick_blank : (v : ℕ) → v < 4096 → at Par v ≡ 4096 → Dec (v ≡ c) → (at Hal v ≡ 0) × (at Pla v ≡ 0)
          pick_blank v l q (yes f) = absurd (omega (arith, pb, sym pn ∙ (rw f at q)))
          pick_blank v l q (no f) = let t = Q.blank v l (sym (po v f) ∙ q) in (ho v f ∙ t.0, lo v f ∙ t.1)

      pub inner_push : Inner start us vs rows head p h (m + 1) Par Hal Ord Pla
      inner_push = record {
        queue = queue_push;
        in_queue = omega (arith, s.in_queue);
        here = oo head s.in_queue ∙ s.here;
        latest = λ i z l. pick_latest i z l (ℕ_discrete i m);
        done = λ i g l k q. keeps _ (s.done i g l k (q ∙ oo i (omega (arith, s.in_queue))));
        doing = λ g l k q. pick_doing g l k q (ℕ_discrete g h);
      }
        where
          pick_latest : (i : ℕ) → 0 < i → i < m + 1 → Dec (i ≡ m)
              → (High Par Ord Pla i ≤ head) × (High Par Ord Pla i ≡ head → h ≤ at Hal (at Ord i))
          pick_latest i z l (yes f) = rw (f, high_new, hal_new) (omega arith, λ d. omega arith)
          pick_latest i z l (no f) =
              let li : i < m = omega arith in
              let w = s.latest i z li in
              rw (high_old i z li, hal_old i li) (w.0, λ d. omega (arith, w.1 d))

          pick_doing : (g : ℕ) → h ≤ g → g < 2 * rows → from us vs g ≡ p → Dec (g ≡ h) → at Par (from vs us g) ≢ 4096
          pick_doing g l k q (yes f) = rw (f, sym fc) (λ t. omega (arith, pb, pn, t))
          pick_doing g l k q (no f) = keeps _ (s.doing g (omega arith) k q)

-- The beginning
pub queue_one : (start : ℕ) (us vs : ℕ → ℕ) (rows : ℕ) (parent half order place : List ℕ) → start < 4096
    → Filled 4096 4096 parent → Filled 4096 0 half → Filled 4096 0 order → Filled 4096 0 place
    → Outer start us vs rows 0 1 (set parent start start) half (set order 0 start) place
queue_one start us vs rows parent half order place b f g k o =
    record {
      queue = record {
        long = (length-set parent start start ∙ f.long, g.long, length-set order 0 start ∙ k.long, o.long);
        free = (
          others.0,
          omega (arith, others.1, upto_length 4096),
          λ v l q. others.2 v (upto_in 4096 v l) (λ e. omega (arith, p0, rw e at q)),
        );
        some = omega arith;
        root = o0;
        top = (p0, g.each start b);
        within = λ i l. rw (first i l, o0) b;
        reached = λ i l. rw (first i l, o0, p0) b;
        placed = λ v l n. pick v l n (ℕ_discrete v start);
        back = λ i l. rw (first i l, o0) (o.each start b);
        child = λ i z l. absurd (omega arith);
        above = λ i z l. absurd (omega arith);
        falls = λ i j z l h. absurd (omega arith);
        blank = λ v l q. (g.each v l, o.each v l);
        rest = λ i l h. get_or-set_other order 0 i start 0 (omega arith) ∙ k.each i h;
      };
      in_queue = omega arith;
      latest = λ i z l. absurd (omega arith);
      done = λ i h l b q. absurd (omega arith);
    }
  where
    first : (i : ℕ) → i < 1 → i ≡ 0
    first i l = omega arith

    p0 : at (set parent start start) start ≡ start
    p0 = get_or-set_same parent start start 0 (omega (arith, f.long))

    o0 : at (set order 0 start) 0 ≡ start
    o0 = get_or-set_same order 0 start 0 (omega (arith, k.long))

    others : Without start (upto 4096)
    others = without start (upto 4096) (upto_in 4096 start b)

    pick : (v : ℕ) → v < 4096 → at (set parent start start) v ≢ 4096 → Dec (v ≡ start)
        → (at place v < 1) × (at (set order 0 start) (at place v) ≡ v)
    pick v l n (yes e) = rw (e, o.each start b) (omega arith, o0)
    pick v l n (no m) = absurd (n (get_or-set_other parent start v start 0 m ∙ f.each v l))

-- What the loop of `visit` keeps, at the half-branch x - 1
pub record Going (start : ℕ) (us vs : ℕ → ℕ) (rows : ℕ) (first next : List ℕ) (head p x m : ℕ)
    (parent half order place : List ℕ) : Type 0 where
  pub chains : Chained us vs rows (2 * rows) first next
  pub node : p < 4096
  pub low : x ≤ 2 * rows
  pub hit : 0 < x → from us vs (x - 1) ≡ p
  pub inner : Inner start us vs rows head p x m parent half order place

module _ {start : ℕ} (us vs : ℕ → ℕ) (rows : ℕ) (first next : List ℕ) (head m : ℕ)
    (parent half order place : List ℕ) where
  pub going_start : (p x : ℕ) → Chained us vs rows (2 * rows) first next → head < m
      → Outer start us vs rows head m parent half order place → p ≡ at order head → x ≡ at first p
      → Going start us vs rows first next head p x m parent half order place
  going_start p x c b o e d =
      let pb : p < 4096 = rw e (o.queue.within head b) in
      let l : Last (from us vs) p (2 * rows) x = rw d (c.firsts p pb) in
      record {
        chains = c;
        node = pb;
        low = l.below;
        hit = l.hit;
        inner = inner_skip us vs rows parent half order place head m p _
            (inner_start us vs rows parent half order place head m p e b o) x l;
      }

  module _ (p x : ℕ) (g : Going start us vs rows first next head p x m parent half order place) (z : 0 < x) where
    same : x ≡ x - 1 + 1
    same = omega arith

    fits : x - 1 < 2 * rows
    fits = omega (arith, g.low)

    next_last : (y : ℕ) → y ≡ at next (x - 1) → Last (from us vs) p (x - 1) y
    next_last y e = rw e (rw (g.hit z) at (g.chains.nexts (x - 1) fits))

    pub leads_place : {c : ℕ} → RowsFit us vs rows 4096 → c ≡ from vs us (x - 1) → c < 4096
    leads_place f e = rw e (from_fits vs us (x - 1) (flip_fit f) fits)

    pub going_keep : (c y : ℕ) → c ≡ from vs us (x - 1) → at parent c ≢ 4096 → y ≡ at next (x - 1)
        → Going start us vs rows first next head p y m parent half order place
    going_keep c y e n d =
        let l = next_last y d in
        record {
          chains = g.chains;
          node = g.node;
          low = omega (arith, l.below, g.low);
          hit = l.hit;
          inner = inner_skip us vs rows parent half order place head m p _
              (inner_keep us vs rows parent half order place head m p x g.inner (x - 1) same (rw e at n)) y l;
        }

    pub going_room : (c : ℕ) → c ≡ from vs us (x - 1) → c < 4096 → at parent c ≡ 4096 → m < 4096
    going_room c e b n =
        room us vs rows parent half order place head m p x g.inner (x - 1) c same fits (g.hit z) e b n

    pub going_push : (c y : ℕ) → c ≡ from vs us (x - 1) → c < 4096 → at parent c ≡ 4096 → y ≡ at next (x - 1)
        → Going start us vs rows first next head p y (m + 1) (set parent c p) (set half c (x - 1)) (set order m c)
        (set place c m)
    going_push c y e b n d =
        let l = next_last y d in
        record {
          chains = g.chains;
          node = g.node;
          low = omega (arith, l.below, g.low);
          hit = l.hit;
          inner = inner_skip us vs rows _ _ _ _ head _ p _
              (inner_push us vs rows parent half order place head m p x g.inner (x - 1) c same fits (g.hit z) e b n)
              y l;
        }
