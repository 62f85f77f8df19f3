-- 01, "Where a reasonable person goes wrong", over areas grown from fresh. Assumes nothing.
--  * grown_headers_agree: where nobody owns the headers, every mapped header agrees with the map, and every entry of the map with its
--    block's header.
--  * grown_headers_between: they agree exactly where no thread stands between W7 and W10, between U6 and U7 or between L10 and L13.
--  * grown_wear_under_h: a call that changes some block's wear is a step of a thread that holds H before it and after it.
use mathlib.Core.Path.{◌≡◌, sym, subst}
use mathlib.Core.Bool.{true, false}
use mathlib.Core.List.{List}
use mathlib.Core.Logic.{◌↔◌}
use Prim.Native.Nat.{ℕ}
use Rattle.meaning.specs.Store.{Store}
use Rattle.meaning.specs.Holding.{free}
use Rattle.meaning.specs.Call.{Entry}
use Rattle.meaning.specs.Schedule.{Words}
use Rattle.meaning.specs.Guarding.{between, HeadersAgree, WearUnderH}
use Rattle.meaning.proofs.Progress.Guarded.{headers_agree, headers_agree_between, wear_under_h}
use Rattle.store.specs.Area.{decode}
use Rattle.store.specs.Calls.{call_area, Grown}
use Rattle.demands.proofs.Bridge.{after_call, grown-good, grown-inv}

module _ (a : List ℕ) (g : Grown a) where
  pub grown_headers_agree : free (decode a).owner ≡ true → HeadersAgree (decode a)
  grown_headers_agree = headers_agree (decode a) (grown-inv a g)

  pub grown_headers_between : HeadersAgree (decode a) ↔ ((v : ℕ) → between ((decode a).thread v) ≡ false)
  grown_headers_between = headers_agree_between (decode a) (grown-inv a g)

  pub grown_wear_under_h : (e : Entry) → Words e → WearUnderH (decode a) (decode (call_area a e).after) e
  grown_wear_under_h e w =
      subst (λ (s : Store). WearUnderH (decode a) s e) (sym (after_call a (grown-good a g) e w).decoded)
      (wear_under_h (decode a) (grown-inv a g) e)
