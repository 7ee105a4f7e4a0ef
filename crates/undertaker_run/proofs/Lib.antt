mod Faults
mod WorkLaws
mod Usage
mod GolemLaws
mod Causes
mod EndLaws
mod OutputLaws
