-- what public contracts rest on
pub mod Graph
-- the words of inner functions
pub mod GraphInside
pub mod Turning
pub mod Searching
pub mod Walks
pub mod Layers
pub mod Returns
pub mod Rising
pub mod Leaving
