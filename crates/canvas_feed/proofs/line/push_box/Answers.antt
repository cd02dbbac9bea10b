use Rattle.std.proofs.Common.{◌≡◌, refl, List, ℕ, ◌++◌, append_assoc, codes}
use Rattle.canvas_feed.specs.Feed.{edges_text, box_text}
use Rattle.canvas_feed.proofs.line.push_box.Goals as goal

joined : (t a b c d e first second : List ℕ) → a ≡ t ++ codes "[" → b ≡ a ++ first → c ≡ b ++ codes "," → d ≡ c ++ second → e ≡ d ++ codes "]" → e ≡ t ++ (codes "[" ++ first ++ codes "," ++ second ++ codes "]")
joined t a b c d e first second ha hb hc hd he = rw (he, hd, hc, hb, ha) (simp append_assoc)

pub returns : goal.returns
unfolding box_text
returns c = joined c.args.text.now.items c.extend_from_slice.new.self.items c.push_first_edges.new.text.items c.extend_from_slice-2.new.self.items c.push_last_edges.new.text.items c.extend_from_slice-3.new.self.items
    _ _ c.in_ok-extend_from_slice.ensures.items c.in_ok-push_first_edges.ensures c.in_ok-extend_from_slice-2.ensures.items c.in_ok-push_last_edges.ensures c.in_ok-extend_from_slice-3.ensures.items
